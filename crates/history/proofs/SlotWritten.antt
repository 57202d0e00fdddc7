-- One slot written, by a change of a key in a run, is a step: each open version sees there what it saw, and the rows of the
-- others are the running database without the key, since no other slot has it; so with what the slot now shows put first the
-- rows are what the change makes of that database. A call of several changes is these one after another. Assumes nothing.
use Rattle.std.specs.Prelude.{◌≡◌, refl, true, false, ◌++◌, ℕ, suc, ◌<◌, eqb, ℤ, Option, Some, None, option_to_list}
use Rattle.std.proofs.Common.{sym, ◌∙◌}
use Rattle.std.proofs.lemmas.Bool.{eqb-false}
use mathlib.Core.List.{Permᴰ}
use mathlib.Core.List.Permᴰ
use Rattle.laws.specs.TestLaws.{by_test, by_place, clash}
use Rattle.calls.specs.Rows.{Row}
use Rattle.changes.specs.Effects.{Own}
use Rattle.history.specs.Databases.{Database, without, Change, changed, up_to}
use Rattle.history.specs.Followed.{Followed, current, running, Committed, Gone, with_change}
use Rattle.history.proofs.DatabaseLaws.{without_absent, without-perm, is_key_lem}
use Rattle.history.proofs.Rows.{rows_for, hiding, focus, rows_same}
use Rattle.history.proofs.Views.{View, rows_at, rest_lacks}
use Rattle.history.proofs.Growth.{standing_grows, running-changed}
use Rattle.history.proofs.Invariant.{Inv, Step, rows_stay}

-- a change of the key that is to show `after` at the run's number writes slot k
pub record Written (n m : ℕ) (T : View) (g : Followed) (key1 key2 : ℤ) (after : Option Row) (k : ℕ) (T' : View) : Type 0 where
  pub place : k < m
  -- the other slots stay, and none of them has the key
  pub others : (j : ℕ) → (j ≡ k → ⊥) → (s : ℕ) → T'.shown s j ≡ T.shown s j
  pub other_keys : (j : ℕ) → (j ≡ k → ⊥) → (p q : ℤ) → T'.has j p q ≡ T.has j p q
  pub alone : (j : ℕ) → (j ≡ k → ⊥) → T.has j key1 key2 ≡ false
  -- each open version sees in the slot what it saw
  pub stays : (s : ℕ) → Committed g s → (Gone n g s → ⊥) → T'.shown s k ≡ T.shown s k
  -- the run saw there no row, or one of the key, and sees what the change says
  pub before : Own key1 key2 (T.shown (suc (current g)) k)
  pub now : T'.shown (suc (current g)) k ≡ after
  -- it is left with no key, or with this one
  pub key : (p q : ℤ) → T'.has k p q ≡ true → (p ≡ key1) × (q ≡ key2)

-- a row of the key, and no row, are gone without it
own_gone : (key1 key2 : ℤ) (r : Option Row) (d : Database) → Own key1 key2 r → without key1 key2 (option_to_list r ++ d) ≡ without key1 key2 d
own_gone key1 key2 (Some x) d o = rw (is_key_lem key1 key2 x o.0 o.1)
own_gone key1 key2 None d o = refl

module _ {n m : ℕ} {T : View} {g : Followed} (i : Inv n m T g) (a : g.active ≡ true)
    {key1 key2 : ℤ} {after : Option Row} {k : ℕ} {T' : View} (w : Written n m T g key1 key2 after k T') where
  slots_stay : (s : ℕ) → Committed g s → (Gone n g s → ⊥) → (j : ℕ) → T'.shown s j ≡ T.shown s j
  slots_stay s c kept j = by_place j k (λ e. rw e (w.stays s c kept)) (λ ne. w.others j ne s)

  -- no key has two slots: the others have not the one that this has
  apart : (j : ℕ) → (j ≡ k → ⊥) → (p q : ℤ) → T'.has j p q ≡ true → T'.has k p q ≡ true → ⊥
  apart j ne p q hj hk = let e = w.key p q hk in clash (rw (w.other_keys j ne p q, e.0, e.1) at hj) (w.alone j ne)

  distinct_after : (j l : ℕ) (p q : ℤ) → T'.has j p q ≡ true → T'.has l p q ≡ true → j ≡ l
  distinct_after j l p q hj hl =
      by_place j k
      (λ ej. by_place l k (λ el. ej ∙ sym el) (λ nl. absurd (apart l nl p q hl (rw ej at hj))))
      (λ nj. by_place l k
      (λ el. absurd (apart j nj p q hj (rw el at hl)))
      (λ nl. i.distinct.slot j l p q (rw (w.other_keys j nj p q) at hj) (rw (w.other_keys l nl p q) at hl)))

  -- the rows of the other slots are those that the running database has beside the key's
  abbrev sees : ℕ → Option Row
  sees = T.shown (suc (current g))

  abbrev rest : Database
  rest = rows_for (hiding k sees) (up_to m)

  other_rows : Permᴰ rest (without key1 key2 (running g))
  other_rows =
      let e : without key1 key2 (option_to_list (sees k) ++ rest) ≡ rest =
      own_gone key1 key2 (sees k) rest w.before ∙ without_absent key1 key2 rest (rest_lacks i.distinct sees (T.owned (suc (current g))) k m key1 key2 w.alone) in
      rw e at (without-perm key1 key2 (Permᴰ.trans (Permᴰ.symm (focus sees k m w.place)) (i.top a)))

  running_rows : Permᴰ (rows_at T' (suc (current g)) m) (option_to_list after ++ without key1 key2 (running g))
  running_rows =
      let sees' = T'.shown (suc (current g)) in
      let same : rows_for (hiding k sees') (up_to m) ≡ rest = rows_same (hiding k sees) (hiding k sees') m
      (λ j l. by_test (eqb j k) (λ y. rw y refl) (λ ne. rw (ne, w.others j (eqb-false j k ne) (suc (current g))))) in
      Permᴰ.trans (rw (w.now, same) at (focus sees' k m w.place)) (Permᴰ.append_left (option_to_list after) other_rows)

  pub written_step : (c : Change) → changed c (running g) ≡ option_to_list after ++ without key1 key2 (running g) → Step n m T g T' (with_change c g)
  written_step c e = record {
    inv = record {
      many = i.many;
      distinct = record { slot = distinct_after };
      low = i.low;
      high = i.high;
      in_run = i.in_run;
      settled = λ idle. clash a idle;
      rows = λ s c. rows_stay i T' slots_stay s (record { from = c.from; to = c.to });
      top = λ b. rw (running-changed g c, e) running_rows;
    };
    grows = standing_grows g _ _;
    stays = slots_stay;
  }
