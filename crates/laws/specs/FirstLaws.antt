-- How a chain of tests in the code is followed along a list of (test, refusal), and how a test comes back by its refusal.
-- Assumes nothing.
use Rattle.std.specs.Prelude.{◌≡◌, refl, Bool, true, false, cond, List, [], ◌∷◌, ◌++◌, Option, Some, None, Result, Ok, Err, eqb}
use Rattle.std.proofs.Common.{sym}
use Rattle.std.proofs.lemmas.Option.{none-some}
use Rattle.refusals.specs.declared.Refusal.{Refusal}
use Rattle.refusals.specs.Refusals.{number}
use Rattle.laws.specs.TestLaws.{by_test}
use Rattle.laws.specs.First.{first, unless, kept_or}

-- how a contract's answer, and what it leaves, are shown: by a refusal that is given, or by what is done
pub unless_refused : {A E : Type 0} {e : E} {m : Option E} (done : A) → m ≡ Some e → Err e ≡ unless m done
unless_refused done h = rw h refl

pub unless-done : {A E : Type 0} {m : Option E} {done : A} {r : Result A E} → m ≡ None → r ≡ Ok done → r ≡ unless m done
unless-done h e = rw h e

pub kept_refused : {A E : Type 0} {e : E} {m : Option E} {stood left : A} (made : A) → m ≡ Some e → left ≡ stood → left ≡ kept_or m stood made
kept_refused made h e = rw h e

pub kept-done : {A E : Type 0} {m : Option E} {made left : A} (stood : A) → m ≡ None → left ≡ made → left ≡ kept_or m stood made
kept-done stood h e = rw h e

-- the test of a refusal
abbrev pub test_of : Refusal → List (Bool × Refusal) → Bool
test_of e [] = false
test_of e (t ∷ l) = cond (eqb (number e) (number t.1)) t.0 (test_of e l)

-- the tests that stand after a refusal's
abbrev pub after : Refusal → List (Bool × Refusal) → List (Bool × Refusal)
after e [] = []
after e (t ∷ l) = cond (eqb (number e) (number t.1)) l (after e l)

-- ---- where nothing is refused the test of each refusal fails: `none _ h BadTotal`
pub none : (l : List (Bool × Refusal)) → first l ≡ None → (e : Refusal) → test_of e l ≡ false
unfolding first
none [] h e = refl
none ((true, c) ∷ l) h e = absurd (none-some c (sym h))
none ((false, c) ∷ l) h e = by_test (eqb (number e) (number c)) (λ y. rw y refl) (λ y. rw y (none l h e))

-- ---- a chain of tests, one at a time: past one that fails, and at one that holds
pub skip : {E : Type 0} {t : Bool} (e : E) (l : List (Bool × E)) → t ≡ false → first ((t, e) ∷ l) ≡ first l
unfolding first
skip e l h = rw h refl

pub hit : {E : Type 0} {t : Bool} {e : E} (l : List (Bool × E)) → t ≡ true → first ((t, e) ∷ l) ≡ Some e
unfolding first
hit l h = rw h refl

-- and past the last
pub done : {E : Type 0} → first {E = E} [] ≡ None
unfolding first
done = refl

-- ---- a front part at once, whose refusal another function gave
pub pass : {E : Type 0} (l m : List (Bool × E)) → first l ≡ None → first (l ++ m) ≡ first m
unfolding first
pass [] m h = refl
pass ((true, c) ∷ l) m h = absurd (none-some c (sym h))
pass ((false, c) ∷ l) m h = pass l m h

pub stop : {E : Type 0} (l m : List (Bool × E)) (e : E) → first l ≡ Some e → first (l ++ m) ≡ Some e
unfolding first
stop [] m e h = absurd (none-some e h)
stop ((true, c) ∷ l) m e h = h
stop ((false, c) ∷ l) m e h = stop l m e h

-- what follows a test may be replaced by what gives the same
pub under : {E : Type 0} (t : Bool × E) (l m : List (Bool × E)) → first l ≡ first m → first (t ∷ l) ≡ first (t ∷ m)
unfolding first
under t l m e = rw e refl
