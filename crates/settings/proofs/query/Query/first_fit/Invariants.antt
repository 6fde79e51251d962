use Rattle.std.proofs.Common.{◌≡◌, drop}
use Rattle.settings.specs.Settings.{fits, first_of}
use Rattle.settings.proofs.query.Query.first_fit.Given as goal

-- no record before this one fits
abbrev pub invariant-loop-at : goal.invariant-loop-at
invariant-loop-at l = first_of (fits l.self.curve l.self.depth l.self.budget) 0 l.settings ≡ first_of (fits l.self.curve l.self.depth l.self.budget) l.at (drop l.at l.settings)
