-- When there is no room: the keys that the databases of the open versions and the running one hold together are those of the slots
-- that show a row at one of these versions. Where these are the slots that are not free, they number the slots exactly when
-- none is free. By counting, slot by slot. And for two versions the open one in a run is current. Assumes nothing.
use Rattle.std.specs.Prelude.{◌≡◌, refl, Bool, true, false, cond, not, ◌&&◌, ◌||◌, ◌⊎◌, List, [], ◌∷◌, ◌++◌, map, ℕ, zero, suc, ◌+◌, ◌≤◌, ◌<◌, eqb, leb, ℤ, length, Option, Some, None, is_some, option_to_list}
use Rattle.std.specs.Option.{option_or}
use Rattle.std.proofs.Common.{sym, ap, ap₂, ◌∙◌, ⊎_elim, arith, length-append, eqb-true, leb-true, le-leb}
use Rattle.std.proofs.Math.Bool.{or-true}
use Rattle.std.proofs.lemmas.Bool.{eqb-false, lt-leb}
use mathlib.Core.List.{Permᴰ}
use mathlib.Core.List.Permᴰ
use Rattle.laws.specs.TestLaws.{by_test, clash, not_yes}
use Rattle.laws.specs.Permutations.{permᴰ-length}
use Rattle.calls.specs.Rows.{Row}
use Rattle.history.specs.Databases.{Database, holds, beside, together, all_together, up_to}
use Rattle.history.specs.Followed.{Followed, current, database_at, running, Committed, Gone, is_open, open_of, open_versions}
use Rattle.history.proofs.DatabaseLaws.{and_both, holds-perm, beside-perm}
use Rattle.history.proofs.Rows.{rows_for, front, rows_lack, rows_hold}
use Rattle.history.proofs.Views.{View, Distinct, Owned, by_row, lacks, holds_own, held_here}
use Rattle.history.proofs.Invariant.{Inv}

-- ---- two databases in another order hold the same keys together
beside_same : (a a' b : Database) → ((p q : ℤ) → holds p q a ≡ holds p q a') → beside a b ≡ beside a' b
beside_same a a' [] same = refl
beside_same a a' (r ∷ b) same = ap₂ (λ t l. cond (not t) (r ∷ l) l) (same r.key1 r.key2) (beside_same a a' b same)

together-perm : {a a' b b' : Database} → Permᴰ a a' → Permᴰ b b' → Permᴰ (together a b) (together a' b')
together-perm {a} {a'} {b} {b'} x y =
    rw (beside_same a a' b (λ p q. holds-perm p q x)) (Permᴰ.trans (Permᴰ.append_right (beside a' b) x) (Permᴰ.append_left a' (beside-perm a' y)))

-- ---- slot by slot, beside what one shows and else what another does: what the other shows where the one shows nothing
abbrev alone : Option Row → Option Row → Option Row
alone one other = cond (is_some one) None other

either_slot : (one other : Option Row) (d e : Database) {f : Database} → Permᴰ (d ++ e) f
    → Permᴰ ((option_to_list one ++ d) ++ (option_to_list (alone one other) ++ e)) (option_to_list (option_or one other) ++ f)
either_slot (Some r) other d e x = Permᴰ.cons refl x
either_slot None other d e x = Permᴰ.trans (front d (option_to_list other) e) (Permᴰ.append_left (option_to_list other) x)

either_rows : (f g : ℕ → Option Row) (m : ℕ)
    → Permᴰ (rows_for f (up_to m) ++ rows_for (λ k. alone (f k) (g k)) (up_to m)) (rows_for (λ k. option_or (f k) (g k)) (up_to m))
either_rows f g zero = Permᴰ.nil
either_rows f g (suc m) = either_slot (f m) (g m) _ _ (either_rows f g m)

-- ---- counting: the rows number the slots exactly when every slot shows one
slot_count : (r : Option Row) → length (option_to_list r) ≡ cond (is_some r) 1 0
slot_count (Some r) = refl
slot_count None = refl

module _ (f : ℕ → Option Row) where
  count : (m : ℕ) → length (rows_for f (up_to (suc m))) ≡ cond (is_some (f m)) 1 0 + length (rows_for f (up_to m))
  count m = rw (length-append (option_to_list (f m)) (rows_for f (up_to m)), slot_count (f m))

  count_within : (m : ℕ) → length (rows_for f (up_to m)) ≤ m
  count_within zero = omega arith
  count_within (suc m) =
      by_test (is_some (f m)) (λ y. omega (arith, rw y at (count m), count_within m)) (λ n. omega (arith, rw n at (count m), count_within m))

  count_all : (m : ℕ) → ((j : ℕ) → j < m → is_some (f j) ≡ true) → length (rows_for f (up_to m)) ≡ m
  count_all zero all = refl
  count_all (suc m) all = omega (arith, rw (all m (omega arith)) at (count m), count_all m (λ j l. all j (omega arith)))

  all-counted : (m : ℕ) → length (rows_for f (up_to m)) ≡ m → (j : ℕ) → j < m → is_some (f j) ≡ true
  all-counted zero e j l = absurd (omega arith)
  all-counted (suc m) e j l =
      by_test (is_some (f m))
      (λ y. by_test (eqb j m)
      (λ z. let same : j ≡ m = eqb-true j m z in rw same y)
      (λ n. all-counted m (omega (arith, rw y at (count m))) j (omega (arith, eqb-false j m n))))
      (λ n. absurd (omega (arith, rw n at (count m), count_within m)))

-- ---- what is shown of a slot at one of several versions
abbrev pub any_shown : View → List ℕ → ℕ → ℕ → Option Row
any_shown T [] run k = T.shown run k
any_shown T (s ∷ ss) run k = option_or (T.shown s k) (any_shown T ss run k)

abbrev pub AllOpen : ℕ → Followed → List ℕ → Type 0
AllOpen n g [] = Unit {0}
AllOpen n g (s ∷ ss) = Committed g s × (Gone n g s → ⊥) × AllOpen n g ss

-- ---- the open versions: each is committed and not gone, and each such is one of them
module _ (n : ℕ) (g : Followed) where
  is_open_lem : (s : ℕ) → is_open n g s ≡ true → (g.origin ≤ s) × (Gone n g s → ⊥)
  is_open_lem s h =
      let x = and_both (leb g.origin s) (not (leb (s + n) g.begun)) h in
      (leb-true g.origin s x.0, λ gone. clash (le-leb (s + n) g.begun gone) (not_yes x.1))

  open_is : (s : ℕ) → g.origin ≤ s → (Gone n g s → ⊥) → is_open n g s ≡ true
  open_is s from kept = ap₂ ◌&&◌ (le-leb g.origin s from) (ap not (lt-leb (s + n) g.begun (omega arith)))

  all_open : (b : ℕ) → b ≤ suc (current g) → AllOpen n g (open_of n g (up_to b))
  all_open zero l = tt
  all_open (suc b) l =
      by_test (is_open n g b)
      (λ y. let x = is_open_lem b y in rw y (record { from = x.0; to = omega arith }, x.1, all_open b (omega arith)))
      (λ e. rw e (all_open b (omega arith)))

pub open_versions_lem : (n : ℕ) (g : Followed) → AllOpen n g (open_versions n g)
open_versions_lem n g = all_open n g (suc (current g)) (omega arith)

-- a slot shows a row at one of several versions if it does at the run's number or at one of them, and none if it does at none
either_shows : (one other : Option Row) → is_some (option_or one other) ≡ is_some one || is_some other
either_shows (Some r) other = refl
either_shows None other = refl

module _ (T : View) (n : ℕ) (g : Followed) (run j : ℕ) where
  any_none : (ss : List ℕ) → AllOpen n g ss → ((s : ℕ) → Committed g s → (Gone n g s → ⊥) → T.shown s j ≡ None) → T.shown run j ≡ None
      → any_shown T ss run j ≡ None
  any_none [] each none run_none = run_none
  any_none (s ∷ ss) each none run_none = rw (none s each.0 each.1) (any_none ss each.2 none run_none)

  any_run : (ss : List ℕ) → is_some (T.shown run j) ≡ true → is_some (any_shown T ss run j) ≡ true
  any_run [] h = h
  any_run (s ∷ ss) h = either_shows (T.shown s j) (any_shown T ss run j) ∙ rw (any_run ss h) (or-true (is_some (T.shown s j)))

  any_in : (b s : ℕ) → s < b → is_open n g s ≡ true → is_some (T.shown s j) ≡ true → is_some (any_shown T (open_of n g (up_to b)) run j) ≡ true
  any_in zero s l o h = absurd (omega arith)
  any_in (suc b) s l o h =
      by_test (eqb s b)
      (λ y. let e : s ≡ b = eqb-true s b y in rw (rw e at o) (either_shows (T.shown b j) _ ∙ rw (rw e at h)))
      (λ ne. let rest = any_in b s (omega (arith, eqb-false s b ne)) o h in
      by_test (is_open n g b) (λ y. rw y (either_shows (T.shown b j) _ ∙ rw rest (or-true (is_some (T.shown b j))))) (λ e. rw e rest))

  -- so where a slot is free exactly when none shows a row of it
  pub taken_open : (free : Bool) → (free ≡ true → T.shown run j ≡ None)
      → (free ≡ true → (s : ℕ) → Committed g s → (Gone n g s → ⊥) → T.shown s j ≡ None)
      → (free ≡ false → (is_some (T.shown run j) ≡ true) ⊎ ((s : ℕ) × Committed g s × (Gone n g s → ⊥) × (is_some (T.shown s j) ≡ true)))
      → is_some (any_shown T (open_versions n g) run j) ≡ not free
  taken_open true unseen_run unseen visible = ap is_some (any_none (open_versions n g) (open_versions_lem n g) (unseen refl) (unseen_run refl))
  taken_open false unseen_run unseen visible =
      ⊎_elim (any_run (open_versions n g))
      (λ x. any_in (suc (current g)) x.0 (omega (arith, x.1.to)) (open_is n g x.0 x.1.from x.2) x.3) (visible refl)

-- ---- of two versions the one that is open in a run is current: those before it are gone
module _ (g : Followed) (in_run : g.begun ≡ suc (current g)) where
  none_before : (b : ℕ) → b ≤ current g → open_of 2 g (up_to b) ≡ []
  none_before zero l = refl
  none_before (suc b) l =
      by_test (is_open 2 g b) (λ y. absurd ((is_open_lem 2 g b y).1 (omega arith))) (λ e. rw e (none_before b (omega arith)))

  pub current-alone : open_versions 2 g ≡ current g ∷ []
  current-alone = rw (open_is 2 g (current g) (omega arith) (λ h. omega arith), none_before (current g) (omega arith))

either_owned : (has : ℤ → ℤ → Bool) (one other : Option Row) → Owned has one → Owned has other → Owned has (option_or one other)
either_owned has (Some r) other x y = x
either_owned has None other x y = y

module _ (T : View) where
  pub any_owned : (ss : List ℕ) (run k : ℕ) → Owned (T.has k) (any_shown T ss run k)
  any_owned [] run k = T.owned run k
  any_owned (s ∷ ss) run k = either_owned (T.has k) (T.shown s k) (any_shown T ss run k) (T.owned s k) (any_owned ss run k)

  module _ (distinct : Distinct T) (f g : ℕ → Option Row) (own-f : (k : ℕ) → Owned (T.has k) (f k)) (own-g : (k : ℕ) → Owned (T.has k) (g k)) where
    -- a slot's key is held exactly when the slot shows a row; so the rows beside are those of the slots that show none
    beside_rows : (m j : ℕ) → j ≤ m → beside (rows_for f (up_to m)) (rows_for g (up_to j)) ≡ rows_for (λ k. alone (f k) (g k)) (up_to j)
    beside_rows m zero l = refl
    beside_rows m (suc j) l =
        let rest = beside_rows m j (omega arith) in
        by_row (λ r. beside (rows_for f (up_to m)) (option_to_list r ++ rows_for g (up_to j)) ≡ option_to_list (alone (f j) r) ++ rows_for (λ k. alone (f k) (g k)) (up_to j)) _ (g j) (own-g j)
        (λ x h. rw (held_here distinct f own-f j m x.key1 x.key2 (omega arith) h, rest) (by_test (is_some (f j)) (λ y. rw y) (λ e. rw e)))
        (by_test (is_some (f j)) (λ y. rw y rest) (λ e. rw e rest))

    together_rows : (m : ℕ) → Permᴰ (together (rows_for f (up_to m)) (rows_for g (up_to m))) (rows_for (λ k. option_or (f k) (g k)) (up_to m))
    together_rows m = rw (beside_rows m m (omega arith)) (either_rows f g m)

-- ---- where the invariant holds and a run is active: no room, by the slots and by the databases
pub record NoRoom (T : View) (m : ℕ) (free : ℕ → Bool) (p q : ℤ) : Type 0 where
  pub absent : (j : ℕ) → j < m → T.has j p q ≡ false
  pub taken : (j : ℕ) → j < m → free j ≡ false

module _ {n m : ℕ} {T : View} {g : Followed} (i : Inv n m T g) (a : g.active ≡ true) where
  held_rows : (ss : List ℕ) → AllOpen n g ss → Permᴰ (all_together (map (database_at g) ss) (running g)) (rows_for (any_shown T ss (suc (current g))) (up_to m))
  held_rows [] each = Permᴰ.symm (i.top a)
  held_rows (s ∷ ss) each =
      Permᴰ.trans (together-perm (Permᴰ.symm (i.rows s each.0 each.1)) (held_rows ss each.2))
      (together_rows T i.distinct (T.shown s) (any_shown T ss (suc (current g))) (T.owned s) (any_owned T ss (suc (current g))) m)

  module _ (ss : List ℕ) (each : AllOpen n g ss) (free : ℕ → Bool) (taken : (j : ℕ) → j < m → is_some (any_shown T ss (suc (current g)) j) ≡ not (free j)) (p q : ℤ) where
    abbrev sees : ℕ → Option Row
    sees = any_shown T ss (suc (current g))

    abbrev held : Database
    held = all_together (map (database_at g) ss) (running g)

    owned : (k : ℕ) → Owned (T.has k) (sees k)
    owned k = any_owned T ss (suc (current g)) k

    pub full_room : (length held ≡ m) × (holds p q held ≡ false) → NoRoom T m free p q
    full_room (counted, without) =
        let all = all-counted sees m (sym (permᴰ-length (held_rows ss each)) ∙ counted) in
        record {
          absent = λ j l. by_test (T.has j p q)
              (λ y. clash (rows_hold sees p q j m l (holds_own i.distinct sees owned j p q y ∙ all j l)) (sym (holds-perm p q (held_rows ss each)) ∙ without)) (λ h. h);
          taken = λ j l. not_yes (sym (taken j l) ∙ all j l);
        }

    pub room_full : NoRoom T m free p q → (length held ≡ m) × (holds p q held ≡ false)
    room_full none = (
      permᴰ-length (held_rows ss each) ∙ count_all sees m (λ j l. taken j l ∙ ap not (none.taken j l)),
      holds-perm p q (held_rows ss each) ∙ rows_lack sees p q m (λ j l. lacks i.distinct sees owned j p q (none.absent j l)),
    )
