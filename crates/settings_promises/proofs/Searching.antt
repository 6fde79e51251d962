-- Laws of the search over a list: what it finds, when it finds nothing, and that it reads no further than it must.
-- Assumes nothing.
use mathlib.Core.Path.{◌≡◌, refl, sym, ap, ap₂, ◌∙◌}
use mathlib.Core.Bool.{Bool, true, false, cond}
use mathlib.Core.List.{List, [], ◌∷◌, ◌++◌}
use Prim.Native.Nat.{ℕ, zero, suc, ◌+◌, ◌<◌}
use native.Mathlib.Nat.{add-zero, add-suc, suc-add, zero-lt-suc, le_of_suc-le-suc, not-suc-le-zero}
use native.Mathlib.Omega.{arith}
use Prim.Native.Nat.{suc-le-suc}
use lib.ListN.{length}
use Rattle.settings.specs.declared.Setting.{Setting}
use Rattle.settings.specs.declared.Choice.{Choice}
use Rattle.settings.specs.declared.Choice.TheVariants.{Fits, NoneFits}
use Rattle.settings.specs.Choice.{Report, reported, fitting, none_fitting}
use Rattle.settings.specs.Settings.{first_of}
use Rattle.settings_promises.specs.Promises.{record_at}

-- where nothing is found the first test fails, and behind it nothing is found either
fails : (b : Bool) (index number : ℕ) (rest : Choice) → (reported (cond b (Fits index number) rest)).number ≡ none_fitting → (b ≡ false) × ((reported rest).number ≡ none_fitting)
fails true index number rest h = let no : fitting ≡ none_fitting = h in absurd (omega arith)
fails false index number rest h = (refl, h)

module _ (test : Setting → Bool) where
  -- what a search that begins at an index finds: a record so far on of which the test holds, and of none before it
  pub record Found (from : ℕ) (ss : List Setting) (r : Report) : Type 0 where
    pub offset : ℕ
    pub placed : r.index ≡ from + offset
    pub listed : offset < length ss
    pub numbered : (record_at ss offset).number ≡ r.setting
    pub holds : test (record_at ss offset) ≡ true
    pub first : (k : ℕ) → k < offset → test (record_at ss k) ≡ false

  -- one record further on
  found_later : (from : ℕ) (s : Setting) (rest : List Setting) (r : Report) → test s ≡ false → Found (suc from) rest r → Found from (s ∷ rest) r
  found_later from s rest r e later =
      record {
        offset = suc later.offset;
        placed = later.placed ∙ suc-add from later.offset ∙ sym (add-suc from later.offset);
        listed = suc-le-suc later.listed;
        numbered = later.numbered;
        holds = later.holds;
        first = earlier;
      }
    where
      earlier : (k : ℕ) → k < suc later.offset → test (record_at (s ∷ rest) k) ≡ false
      earlier zero l = e
      earlier (suc k) l = later.first k (le_of_suc-le-suc l)

  pub found : (from : ℕ) (ss : List Setting) → (reported (first_of test from ss)).number ≡ fitting → Found from ss (reported (first_of test from ss))
  unfolding first_of
  found from [] h = let no : none_fitting ≡ fitting = h in absurd (omega arith)
  found from (s ∷ rest) h = by_first from s rest (found (suc from) rest) (test s) refl h
    where
      by_first : (from : ℕ) (s : Setting) (rest : List Setting) → ((reported (first_of test (suc from) rest)).number ≡ fitting → Found (suc from) rest (reported (first_of test (suc from) rest)))
          → (b : Bool) → test s ≡ b → (reported (cond (test s) (Fits from s.number) (first_of test (suc from) rest))).number ≡ fitting
          → Found from (s ∷ rest) (reported (cond (test s) (Fits from s.number) (first_of test (suc from) rest)))
      by_first from s rest later true e h =
          rw e (record { offset = zero; placed = sym (add-zero from); listed = zero-lt-suc (length rest); numbered = refl; holds = e; first = λ k l. absurd (not-suc-le-zero l) })
      by_first from s rest later false e h = rw e (found_later from s rest _ e (later (rw e at h)))

  pub none_found : (from : ℕ) (ss : List Setting) → (reported (first_of test from ss)).number ≡ none_fitting → (k : ℕ) → k < length ss → test (record_at ss k) ≡ false
  unfolding first_of
  none_found from [] h k l = absurd (not-suc-le-zero l)
  none_found from (s ∷ rest) h zero l = (fails (test s) from s.number (first_of test (suc from) rest) h).0
  none_found from (s ∷ rest) h (suc k) l = none_found (suc from) rest (fails (test s) from s.number (first_of test (suc from) rest) h).1 k (le_of_suc-le-suc l)

  pub nothing_found : (from : ℕ) (ss : List Setting) → ((k : ℕ) → k < length ss → test (record_at ss k) ≡ false) → first_of test from ss ≡ NoneFits
  unfolding first_of
  nothing_found from [] h = refl
  nothing_found from (s ∷ rest) h =
      ap (λ (b : Bool). cond b (Fits from s.number) (first_of test (suc from) rest)) (h zero (zero-lt-suc (length rest))) ∙ nothing_found (suc from) rest (λ k l. h (suc k) (suc-le-suc l))

  -- what stands behind a record that is found is not read
  pub later_unread : (from : ℕ) (ss more : List Setting) → (reported (first_of test from ss)).number ≡ fitting → first_of test from (ss ++ more) ≡ first_of test from ss
  unfolding first_of
  later_unread from [] more h = let no : none_fitting ≡ fitting = h in absurd (omega arith)
  later_unread from (s ∷ rest) more h = by_first from s rest more (later_unread (suc from) rest more) (test s) refl h
    where
      by_first : (from : ℕ) (s : Setting) (rest more : List Setting) → ((reported (first_of test (suc from) rest)).number ≡ fitting → first_of test (suc from) (rest ++ more) ≡ first_of test (suc from) rest)
          → (b : Bool) → test s ≡ b → (reported (cond (test s) (Fits from s.number) (first_of test (suc from) rest))).number ≡ fitting
          → cond (test s) (Fits from s.number) (first_of test (suc from) (rest ++ more)) ≡ cond (test s) (Fits from s.number) (first_of test (suc from) rest)
      by_first from s rest more later true e h = rw e refl
      by_first from s rest more later false e h = rw e (later (rw e at h))

-- two tests that agree find the same
pub same_found : (f g : Setting → Bool) → ((s : Setting) → f s ≡ g s) → (from : ℕ) (ss : List Setting) → first_of f from ss ≡ first_of g from ss
unfolding first_of
same_found f g h from [] = refl
same_found f g h from (s ∷ rest) = ap₂ (λ (b : Bool) (r : Choice). cond b (Fits from s.number) r) (h s) (same_found f g h (suc from) rest)
