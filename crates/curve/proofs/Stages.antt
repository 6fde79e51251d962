-- The stages in place: after j of them the places hold de Casteljau's table as far as stage j, and after all of them the right piece. Evaluation and subdivision both rest on this law.
-- Assumes nothing.
use mathlib.Core.Path.{◌≡◌, sym, ap, ap₂, ◌∙◌, subst}
use mathlib.Core.List.{List}
use mathlib.Core.Bool.{Bool, true, ◌&&◌}
use Prim.Native.Nat.{ℕ, suc, ◌+◌, ◌-◌, ◌≤◌, ◌<◌, min}
use native.Mathlib.Numerals.{add-one}
use native.Mathlib.Decide.{dec_lt}
use native.Mathlib.Omega.{arith}
use lib.IntN.{ℤ, pos, neg_ℤ}
use Rattle.rational.specs.Rounding.{Rounding, down, up}
use Rattle.rational.proofs.Quotient.{convex_lower, convex_upper}
use Rattle.bernstein.specs.Affine.{affine}
use Rattle.bernstein.specs.DeCasteljau as DeCasteljau
use Rattle.bernstein.specs.DeCasteljau.{all_below}
use Rattle.bernstein.proofs.Table.{table_agree, table_property, table-suc, table-zero, left-first, right-first}
use Rattle.bernstein.proofs.EveryMap.{map_test, all_zero, all_next, all_agree, every_agree}
use Rattle.curve.specs.declared.Rect.{Rect}
use Rattle.curve.specs.declared.Curve.{Curve}
use Rattle.curve.specs.Limits.{max_degree, max_side}
use Rattle.curve.specs.Rect.{zero_rect, affine_rect, affine_interval, exact_rect, Coordinate, resistance, reactance, along, end}
use Rattle.curve.specs.Curve.{point, points_of, map_at, exact_at, load_of, left_of, right_of, table_exact}
use Rattle.curve.specs.Refusals.{Accepted}
use Rattle.curve.specs.Inner.{Side, Held, Factors, Stored, Taken, Begun, Staged, Tabled, placed}
use Rattle.curve.proofs.Places.{is_points, points_length, points_at}
use Rattle.curve.proofs.Accepted.{accepted_ready}

-- ---- sides stay in range

pub affine-side-held : (r : Rounding) (s t d : ℕ) (a b : ℤ) → Factors s t d → Side a → Side b → Side (affine r s t d a b)
unfolding affine
affine-side-held r s t d a b f ha hb =
    record {
      from = convex_lower r s t d f.total f.positive (neg_ℤ (pos max_side)) a b ha.from hb.from;
      to = convex_upper r s t d f.total f.positive (pos max_side) a b ha.to hb.to;
    }

affine-held : (s t d : ℕ) (p q : Rect) → Factors s t d → Held p → Held q → Held (affine_rect s t d p q)
unfolding affine_rect affine_interval
affine-held s t d p q f hp hq = record { at = λ x. record { at = λ r. go x r } }
  where
    go : (x : Coordinate) (r : Rounding) → Side (end r (along x (affine_rect s t d p q)))
    go resistance down = affine-side-held down s t d _ _ f ((hp.at resistance).at down) ((hq.at resistance).at down)
    go resistance up = affine-side-held up s t d _ _ f ((hp.at resistance).at up) ((hq.at resistance).at up)
    go reactance down = affine-side-held down s t d _ _ f ((hp.at reactance).at down) ((hq.at reactance).at down)
    go reactance up = affine-side-held up s t d _ _ f ((hp.at reactance).at up) ((hq.at reactance).at up)

-- every entry that a stage maps is in range
pub table-held : (s t d : ℕ) (P : ℕ → Rect) (n : ℕ) → Factors s t d → ((k : ℕ) → k ≤ n → Held (P k)) →
    (j k : ℕ) → j + k ≤ n → Held (DeCasteljau.table (affine_rect s t d) P j k)
table-held s t d P n f held = table_property Held (λ a b. affine-held s t d a b f) n held

-- ---- the table, stage by stage

module _ (map : Rect → Rect → Rect) (P : ℕ → Rect) (n : ℕ) where
  -- place k after j stages: the table's entry of stage j, or of the last stage that reaches this place
  unfoldable pub entry_after : ℕ → ℕ → Rect
  entry_after j k = DeCasteljau.table map P (min j (n - k)) k

  entry_running : (j k : ℕ) → j + k ≤ n → entry_after j k ≡ DeCasteljau.table map P j k
  unfolding entry_after
  entry_running j k h = let e : min j (n - k) ≡ j = omega arith in ap (λ (i : ℕ). DeCasteljau.table map P i k) e

  entry_done : (j k : ℕ) → n ≤ j + k → entry_after j k ≡ DeCasteljau.table map P (n - k) k
  unfolding entry_after
  entry_done j k h = let e : min j (n - k) ≡ n - k = omega arith in ap (λ (i : ℕ). DeCasteljau.table map P i k) e

-- after j stages: the left piece's points so far, the table's entries, and the flag of the maps so far
module _ (s t d n : ℕ) (P : ℕ → Rect) where
  abbrev map : Rect → Rect → Rect
  map = affine_rect s t d

  -- whether no map of stage j + 1 leaves a remainder
  abbrev stage_test : ℕ → Bool
  stage_test j = all_below (n - j) (map_test map (exact_rect s t d) P j)

  pub record After (j : ℕ) (left right : List ℤ) (exact : Bool) : Type 0 where
    pub left_piece : (k : ℕ) → k ≤ j → placed left k ≡ DeCasteljau.left map P k
    pub entries : (k : ℕ) → k ≤ n → placed right k ≡ entry_after map P n j k
    pub left_past : (k : ℕ) → j < k → placed left k ≡ zero_rect
    pub right_past : (k : ℕ) → n < k → placed right k ≡ zero_rect
    pub flag : exact ≡ all_below j stage_test

  pub after-start :
      (left left' right : List ℤ) → ((k : ℕ) → placed right k ≡ P k) → ((k : ℕ) → n < k → P k ≡ zero_rect) → ((k : ℕ) → placed left k ≡ zero_rect) → Stored 0 (P 0) left left' →
      After 0 left' right true
  after-start left left' right holds past zeros stored = record {
    left_piece = λ k h. let e : k ≡ 0 = omega arith in ap (placed left') e ∙ stored.here ∙ sym (left-first map P) ∙ ap (DeCasteljau.left map P) (sym e);
    entries = λ k h. holds k ∙ sym (entry_running map P n 0 k (omega arith) ∙ table-zero map P k);
    left_past = λ k h. stored.kept k (λ e. omega arith) ∙ zeros k;
    right_past = λ k h. holds k ∙ past k h;
    flag = sym (all_zero stage_test);
  }

  module _ (j : ℕ) (left right : List ℤ) (b : Bool) (so_far : After j left right b) (more : j < n) where
    -- a place that the next stage maps holds the table's entry
    pub after-entry : (k : ℕ) → j + k ≤ n → placed right k ≡ DeCasteljau.table map P j k
    after-entry k h = so_far.entries k (omega arith) ∙ entry_running map P n j k h

    -- one stage more, whose first entry is the left piece's next point
    pub after_next :
        (left' right' : List ℤ) (e : Bool) → Staged s t d (n - j) right right' e → Stored (j + 1) (placed right' 0) left left' →
        After (j + 1) left' right' (b && e)
    unfolding DeCasteljau.left
    after_next left' right' e staged stored = record {
      left_piece = λ k h. point k h (dec_lt k (j + 1));
      entries = λ k h. entry k h (dec_lt k (n - j));
      left_past = λ k h. stored.kept k (λ e. omega arith) ∙ so_far.left_past k (omega arith);
      right_past = λ k h. staged.kept k (omega arith) ∙ so_far.right_past k h;
      flag =
          ap₂ ◌&&◌ so_far.flag
          (staged.flag ∙ all_agree (n - j) _ (map_test map (exact_rect s t d) P j) (λ k h. ap₂ (exact_rect s t d) (after-entry k (omega arith)) (after-entry (suc k) (omega arith))))
          ∙ sym (all_next j stage_test);
    }
      where
        entry : (k : ℕ) → k ≤ n → Dec (k < n - j) → placed right' k ≡ entry_after map P n (j + 1) k
        entry k h (yes low) =
            staged.mapped k low
            ∙ ap₂ map (after-entry k (omega arith)) (after-entry (suc k) (omega arith))
            ∙ sym (table-suc map P j k)
            ∙ ap (λ (i : ℕ). DeCasteljau.table map P i k) (sym (add-one j))
            ∙ sym (entry_running map P n (j + 1) k (omega arith))
        entry k h (no high) =
            staged.kept k (omega arith) ∙ so_far.entries k h ∙ entry_done map P n j k (omega arith) ∙ sym (entry_done map P n (j + 1) k (omega arith))

        point : (k : ℕ) → k ≤ j + 1 → Dec (k < j + 1) → placed left' k ≡ DeCasteljau.left map P k
        point k h (yes low) = stored.kept k (λ e. omega arith) ∙ so_far.left_piece k (omega arith)
        point k h (no high) =
            let e : j + 1 ≡ k = omega arith in
            ap (placed left') (sym e) ∙ stored.here ∙ entry 0 (omega arith) (yes (omega arith)) ∙ entry_running map P n (j + 1) 0 (omega arith) ∙ ap (λ (i : ℕ). DeCasteljau.table map P i 0) e

  -- after all stages
  pub after-end : (j : ℕ) (left right : List ℤ) (b : Bool) → After j left right b → j ≡ n → Tabled s t d n P left right b
  unfolding DeCasteljau.right DeCasteljau.every_map
  after-end j left right b so_far done = record {
    left_piece = λ k h. so_far.left_piece k (omega arith);
    right_piece = λ k h. so_far.entries k h ∙ entry_done map P n j k (omega arith);
    left_past = λ k h. so_far.left_past k (omega arith);
    right_past = so_far.right_past;
    flag = so_far.flag ∙ ap (λ (i : ℕ). all_below i stage_test) done;
  }

-- ---- the table of an accepted curve

pub taken_begun : (c : Curve) (l : List ℤ) → Accepted c → Taken c l → Begun c.degree l
taken_begun c l ok taken =
    let ready = accepted_ready c ok in
    record { few = ready.few; held = λ k h. subst Held (sym (taken.at k h)) (ready.held k h); past = taken.past }

-- all places of a list are a record's, if zeros stand past the degree
all_places : (n : ℕ) (l : List ℤ) (f : ℕ → Rect) → n ≤ max_degree → ((k : ℕ) → k ≤ n → placed l k ≡ f k) → ((k : ℕ) → n < k → placed l k ≡ zero_rect) →
    points_of max_degree (placed l) ≡ points_of n f
all_places n l f few at past =
    is_points n f (points_of max_degree (placed l)) (points_length max_degree (placed l))
    (λ k inside h. points_at max_degree (placed l) k inside (omega arith) ∙ at k h)
    (λ k inside h. points_at max_degree (placed l) k inside (omega arith) ∙ past k h)

module _ (c : Curve) (num den : ℕ) (l left right : List ℤ) (b : Bool) (few : c.degree ≤ max_degree) (taken : Taken c l)
    (table : Tabled (den - num) num den c.degree (placed l) left right b) where
  pub table-left : points_of max_degree (placed left) ≡ (left_of c num den).points
  unfolding left_of DeCasteljau.left
  table-left =
      all_places c.degree left (DeCasteljau.left (map_at num den) (point c)) few
      (λ k h. table.left_piece k h ∙ table_agree (map_at num den) c.degree taken.at k 0 (omega arith))
      table.left_past

  right-at : (k : ℕ) → k ≤ c.degree → placed right k ≡ DeCasteljau.right (map_at num den) (point c) c.degree k
  unfolding DeCasteljau.right
  right-at k h = table.right_piece k h ∙ table_agree (map_at num den) c.degree taken.at (c.degree - k) k (omega arith)

  pub table-right : points_of max_degree (placed right) ≡ (right_of c num den).points
  unfolding right_of
  table-right = all_places c.degree right (DeCasteljau.right (map_at num den) (point c) c.degree) few right-at table.right_past

  pub table-load : placed right 0 ≡ load_of c num den
  unfolding load_of
  table-load = right-at 0 (omega arith) ∙ right-first (map_at num den) (point c) c.degree

  pub table-flag : b ≡ table_exact c num den
  unfolding table_exact
  table-flag = table.flag ∙ every_agree (map_at num den) (exact_at num den) c.degree taken.at
