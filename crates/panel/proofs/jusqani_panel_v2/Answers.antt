-- `jusqani_panel_v2` meets its contract: the load's bytes in front, or a reason's number and the buffer as it was.
use Rattle.std.proofs.Common.{◌≡◌, ℕ, List, ◌++◌, ◌≤◌, drop, refl, ap, sym, ◌∙◌}
use lib.Seq.{length-take-le}
use Rattle.curve.specs.declared.Refusal.{Refusal}
use Rattle.curve.specs.Refusals.{none}
use Rattle.panel.specs.Panel.{load_bytes, load_length, panel_refusal}
use Rattle.panel.proofs.Call.{none-refused, kept, written}
use Rattle.curve.proofs.Listed.{listed_some}
use Rattle.panel.proofs.jusqani_panel_v2.Goals as goal

room : (card : List ℕ) (num den size : ℕ) → none ≡ panel_refusal card num den size → load_length ≤ size
room card num den size e = (none-refused card num den size (ap (λ (x : Refusal). x.number) (sym e))).2

pub slice_bounds-put_rect-end : goal.slice_bounds-put_rect-end
slice_bounds-put_rect-end c = room c.args.card.now c.args.num c.args.den _ c.in-Ok.ensures.refusal

pub slice_bounds-put_rect-end-in-Ok : goal.slice_bounds-put_rect-end-in-Ok
slice_bounds-put_rect-end-in-Ok c = sym (length-take-le load_length c.args.out.now (room c.args.card.now c.args.num c.args.den _ c.in-Ok.ensures.refusal))

pub put_rect-requires : goal.put_rect-requires
put_rect-requires c = length-take-le load_length c.args.out.now (room c.args.card.now c.args.num c.args.den _ c.in-Ok.ensures.refusal)

pub returns-in-Ok : goal.returns-in-Ok
returns-in-Ok c =
    let a = c.args in
    let out = a.out.now in (
      ap (λ (x : Refusal). x.number) c.in-Ok.ensures.refusal,
      ap (λ (l : List ℕ). l ++ drop load_length out) (c.put_rect.ensures ∙ ap load_bytes c.in-Ok.ensures.load)
          ∙ written a.card.now a.num a.den out c.in-Ok.ensures.refusal refl,
    )

pub returns-in-Err : goal.returns-in-Err
returns-in-Err c =
    let a = c.args in
    let refused = c.in-Err.ensures.refusal in
    (ap (λ (x : Refusal). x.number) (c.from.ensures ∙ refused), kept a.card.now a.num a.den a.out.now refused (listed_some c.in-Err.reason))
