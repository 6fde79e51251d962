-- `try_read_card` meets its contract: the first refusal of the first line, of the other lines or of the curve, or the decoded curve.
use Rattle.std.proofs.Common.{rules, ◌≡◌, ℕ, List, ◌+◌, ◌≤◌, length, Err, refl, sym, ap, ◌∙◌, arith}
use Rattle.curve.specs.declared.Curve.{Curve}
use Rattle.curve.specs.declared.Rect.{Rect}
use Rattle.curve.specs.declared.Refusal.{Refusal}
use Rattle.curve.specs.declared.reason.Reason.{Reason}
use Rattle.curve.specs.Limits.{max_degree}
use Rattle.curve.specs.Curve.{curve_of, points_of}
use Rattle.curve.specs.Refusals.{none, ◌or_else◌, curve_refusal}
use Rattle.curve.specs.Reason.{listed}
use Rattle.card_text.specs.Card.{card_length, row_at}
use Rattle.card_text.specs.Reading.{number_at, degree_of, rect_at, decoded, header_refusal, rows_refusal, card_refusal, read_card}
use Rattle.card_text.specs.Results.{as_card_read}
use Rattle.card_text.proofs.ReadingAnswer.{FirstLine, first-line, card_later, read-refused, read-accepted}
use Rattle.curve.proofs.Listed.{first_is, goes_on, listed_some}
use Rattle.card_text.proofs.LimitedCurve.{refusal-limited, curve-limited}
use Rattle.card_text.proofs.RowsRead.{held_at}
use Rattle.card_text.proofs.try_read_card.Goals as goal

module _ (bytes : List ℕ) where
  refused : (e : Reason) → listed e ≡ card_refusal bytes → as_card_read (Err e) ≡ read_card bytes
  refused e h = read-refused bytes h (listed_some e)

  first_refused : (e : Reason) → listed e ≡ header_refusal bytes → as_card_read (Err e) ≡ read_card bytes
  unfolding card_refusal
  first_refused e h = refused e (first_is e (header_refusal bytes) _ h)

  -- past the first line, whose degree is n
  module _ (n : ℕ) (told : none ≡ header_refusal bytes) (is : n ≡ degree_of (number_at bytes 0)) where
    first : FirstLine bytes
    first = first-line bytes (ap (λ (r : Refusal). r.number) (sym told))

    degree : n ≡ (decoded bytes).degree
    unfolding decoded
    degree = is

    few : n ≤ max_degree
    few = let few = first.few in omega (arith, degree)

    size : length bytes ≡ card_length n
    size = first.size ∙ ap card_length (sym degree)

    later : (rows_refusal bytes (n + 1) or_else curve_refusal (decoded bytes)) ≡ card_refusal bytes
    later = ap (λ (m : ℕ). rows_refusal bytes (m + 1) or_else curve_refusal (decoded bytes)) degree ∙ sym (card_later bytes (ap (λ (r : Refusal). r.number) (sym told)))

    rows_refused : (e : Reason) → listed e ≡ rows_refusal bytes (n + 1) → as_card_read (Err e) ≡ read_card bytes
    rows_refused e h = refused e (first_is e (rows_refusal bytes (n + 1)) (curve_refusal (decoded bytes)) h ∙ later)

    -- past the other lines, which give the points
    module _ (points : List Rect) (read : none ≡ rows_refusal bytes (n + 1)) (are : points ≡ points_of n (held_at bytes)) where
      abbrev made : Curve
      made = record { points = points; degree = n; sum = 0 }

      -- the curve of the sides as the reader holds them
      held : made ≡ curve_of (decoded bytes).degree 0 (held_at bytes)
      held = ap (λ (l : List Rect). record { points = l; degree = n; sum = 0 }) are ∙ ap (λ (m : ℕ). curve_of m 0 (held_at bytes)) degree

      same_refusal : curve_refusal made ≡ curve_refusal (decoded bytes)
      unfolding decoded
      same_refusal = ap curve_refusal held ∙ refusal-limited (decoded bytes).degree (λ k. rect_at bytes (row_at k)) first.few

      curve_refused : (e : Reason) → listed e ≡ curve_refusal made → as_card_read (Err e) ≡ read_card bytes
      curve_refused e h = refused e (goes_on (rows_refusal bytes (n + 1)) (curve_refusal (decoded bytes)) (listed e) read (h ∙ same_refusal) ∙ later)

      curve_read : none ≡ curve_refusal made → record { refusal = none; curve = made } ≡ read_card bytes
      unfolding decoded
      curve_read h =
          let ok : none ≡ curve_refusal (decoded bytes) = h ∙ same_refusal in
          let same : made ≡ decoded bytes = held ∙ curve-limited (decoded bytes).degree (λ k. rect_at bytes (row_at k)) first.few (sym ok) in
          ap (λ (c : Curve). record { refusal = none; curve = c }) same
          ∙ read-accepted bytes (goes_on (rows_refusal bytes (n + 1)) (curve_refusal (decoded bytes)) none read ok ∙ later) refl

pub returns-in_err-degree : goal.returns-in_err-degree
returns-in_err-degree c =
    let told = first_refused c.args.bytes.now c.in_err-degree.field-0.0 c.in_err-degree.ensures.refusal in search rules

pub read_rows-requires-clause-degree_le_max_degree : goal.read_rows-requires-clause-degree_le_max_degree
read_rows-requires-clause-degree_le_max_degree c =
    let h = c.in_ok-degree.ensures in few c.args.bytes.now c.in_ok-degree.degree h.refusal h.degree

pub read_rows-requires-clause-bytes_len : goal.read_rows-requires-clause-bytes_len
read_rows-requires-clause-bytes_len c =
    let h = c.in_ok-degree.ensures in size c.args.bytes.now c.in_ok-degree.degree h.refusal h.degree

pub returns-in_err-points : goal.returns-in_err-points
returns-in_err-points c =
    let h = c.in_ok-degree.ensures in
    let told = rows_refused c.args.bytes.now c.in_ok-degree.degree h.refusal h.degree c.in_err-points.field-0.0 c.in_err-points.ensures.refusal in search rules

pub returns : goal.returns
returns c =
    let h = c.in_ok-degree.ensures in
    let k = c.in_ok-points.ensures in
    curve_read c.args.bytes.now c.in_ok-degree.degree h.refusal h.degree c.in_ok-points.points k.refusal k.points c.in_ok-check_curve.ensures

pub returns-in_err-check_curve : goal.returns-in_err-check_curve
returns-in_err-check_curve c =
    let h = c.in_ok-degree.ensures in
    let k = c.in_ok-points.ensures in
    let told = curve_refused c.args.bytes.now c.in_ok-degree.degree h.refusal h.degree c.in_ok-points.points k.refusal k.points c.in_err-check_curve.field-0.0 c.in_err-check_curve.ensures in
    search rules
