use Rattle.std.proofs.Common.{◌≡◌, drop}
use Rattle.settings.specs.Settings.{boxes_refusal}
use Rattle.settings.proofs.check_boxes.Given as goal

-- every box before this one is good
abbrev pub invariant-loop-at : goal.invariant-loop-at
invariant-loop-at l = boxes_refusal 0 l.settings ≡ boxes_refusal l.at (drop l.at l.settings)
