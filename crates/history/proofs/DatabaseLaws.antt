-- Databases in another order: a permutation of rows holds the same keys, and where no key stands twice it finds the same rows,
-- rolls up to the same counts and sums, and loses the same row. Each goes by the permutation; a step on one or two rows goes by
-- the tests on them alone. And the roll-up of a database is what the library's tally of its rows comes to. Assumes nothing.
use Rattle.std.specs.Prelude.{◌≡◌, refl, Bool, true, false, cond, not, ◌&&◌, ◌||◌, [], ◌∷◌, ◌++◌, map, suc, ℤ, ◌+ℤ◌, length, Option, Some, None, is_some, filter}
use Rattle.std.proofs.Common.{sym, ap, ap₂, subst, ◌∙◌}
use Rattle.std.proofs.Math.Bool.{or_assoc, or_comm}
use Rattle.std.proofs.Math.IntN.{+ℤ_comm, +ℤ_assoc, ℤ_set}
use Rattle.std.proofs.Math.Logic.{∥∥₁_elim}
use Rattle.std.proofs.Math.Nat.{ℕ_set}
use Rattle.std.proofs.lemmas.List.Folds.{list_any-append}
use mathlib.Core.List.{Perm, Permᴰ}
use mathlib.Core.List.Permᴰ
use Rattle.laws.specs.TestLaws.{by_test, clash}
use Rattle.laws.specs.Permutations.{by_perm, permᴰ-length}
use Rattle.laws.specs.OrderLaws.{eq_z_true, eq_z_same}
use Rattle.laws.specs.Order.{eq_z}
use Rattle.table_forms.specs.TotalLaws.{reported_is}
use Rattle.table_forms.specs.Totals.{not_reported}
use Rattle.reads_roll_up.specs.declared.Reported.{Reported}
use Rattle.reads_roll_up.specs.declared.Tally.{Tally}
use Rattle.reads_roll_up.specs.RollUp.{with_total, counted, tally, sums}
use Rattle.calls.specs.Rows.{Row}
use Rattle.history.specs.Databases.{Database, is_key, holds, NoRepeat, without, found, region, reporting, sum_of, rolled_up, beside}

-- ---- tests
pub neither : (a b : Bool) → a || b ≡ false → (a ≡ false) × (b ≡ false)
neither true b e = clash refl e
neither false b e = (refl, e)

or_swap : (a b c : Bool) → a || (b || c) ≡ b || (a || c)
or_swap a b c = sym (or_assoc a b c) ∙ rw (or_comm a b) (or_assoc b a c)

pub and_both : (a b : Bool) → a && b ≡ true → (a ≡ true) × (b ≡ true)
and_both true b e = (refl, e)
and_both false b e = clash e refl

-- the key of a row
pub key_of : (p q : ℤ) (r : Row) → is_key p q r ≡ true → (r.key1 ≡ p) × (r.key2 ≡ q)
key_of p q r h =
    let x = and_both (eq_z r.key1 p) (eq_z r.key2 q) h in
    (eq_z_true r.key1 p x.0, eq_z_true r.key2 q x.1)

pub is_key_lem : (p q : ℤ) (r : Row) → r.key1 ≡ p → r.key2 ≡ q → is_key p q r ≡ true
is_key_lem p q r x y = ap₂ ◌&&◌ (eq_z_same {a = r.key1} {b = p} x) (eq_z_same {a = r.key2} {b = q} y)

-- two rows with one key: each has the other's
pub same_key : (p q : ℤ) (a b : Row) → is_key p q a ≡ true → is_key p q b ≡ true → is_key a.key1 a.key2 b ≡ true
same_key p q a b x y =
    let u = key_of p q a x in
    let w = key_of p q b y in
    is_key_lem a.key1 a.key2 b (w.0 ∙ sym u.0) (w.1 ∙ sym u.1)

-- ---- the same keys
pub holds-perm : (p q : ℤ) {d e : Database} → Permᴰ d e → holds p q d ≡ holds p q e
holds-perm p q =
    by_perm (λ d e. holds p q d ≡ holds p q e) refl (λ r d e. ap (λ b. is_key p q r || b))
    (λ a b d. or_swap (is_key p q a) (is_key p q b) (holds p q d)) (λ d e f. ◌∙◌)

pub holds-append : (p q : ℤ) (d e : Database) → holds p q (d ++ e) ≡ holds p q d || holds p q e
holds-append p q = list_any-append (is_key p q)

-- ---- the row of a key is gone
pub without_absent : (p q : ℤ) (d : Database) → holds p q d ≡ false → without p q d ≡ d
without_absent p q [] h = refl
without_absent p q (r ∷ d) h =
    let n = neither (is_key p q r) (holds p q d) h in
    ap₂ (λ b l. cond (not b) (r ∷ l) l) n.0 (without_absent p q d n.1)

-- ---- the rows that pass a test, in another order
module _ (test : Row → Bool) where
  filter-head : (r : Row) (d e : Database) → Permᴰ (filter test d) (filter test e) → Permᴰ (filter test (r ∷ d)) (filter test (r ∷ e))
  filter-head r d e x = by_test (test r) (λ y. rw y (Permᴰ.cons refl x)) (λ n. rw n x)

  filter_swap : (a b : Row) (d : Database) → Permᴰ (filter test (a ∷ b ∷ d)) (filter test (b ∷ a ∷ d))
  filter_swap a b d =
      by_test (test a)
      (λ y. rw y (by_test (test b) (λ z. rw z (Permᴰ.swap refl refl)) (λ m. rw m (Permᴰ.refl _))))
      (λ n. rw n (Permᴰ.refl _))

  pub filter-perm : {d e : Database} → Permᴰ d e → Permᴰ (filter test d) (filter test e)
  filter-perm = by_perm (λ d e. Permᴰ (filter test d) (filter test e)) Permᴰ.nil filter-head filter_swap (λ d e f. Permᴰ.trans)

pub without-perm : (p q : ℤ) {d e : Database} → Permᴰ d e → Permᴰ (without p q d) (without p q e)
without-perm p q = filter-perm (λ r. not (is_key p q r))

pub beside-perm : (a : Database) {d e : Database} → Permᴰ d e → Permᴰ (beside a d) (beside a e)
beside-perm a = filter-perm (λ r. not (holds r.key1 r.key2 a))

-- ---- no key twice
-- the key of a row that is no other's is not the other's either
apart : (a b : Row) → is_key a.key1 a.key2 b ≡ false → is_key b.key1 b.key2 a ≡ false
apart a b n =
    by_test (is_key b.key1 b.key2 a)
    (λ y. clash (same_key b.key1 b.key2 a b y (is_key_lem b.key1 b.key2 b refl refl)) n) (λ m. m)

pub norepeat-perm : {d e : Database} → Permᴰ d e → NoRepeat d → NoRepeat e
norepeat-perm Permᴰ.nil n = n
norepeat-perm (Permᴰ.cons {a = a} {l₂ = e} same rest) n =
    rw (← same) (sym (holds-perm _ _ rest) ∙ n.0, norepeat-perm rest n.1)
norepeat-perm (Permᴰ.swap {a = a} {b = b} {a' = a'} {b' = b'} {l = l} e f) n =
    let m = neither _ _ n.0 in
    subst (λ r. NoRepeat (r ∷ b' ∷ l)) f (subst (λ r. NoRepeat (b ∷ r ∷ l)) e (ap₂ ◌||◌ (apart a b m.0) n.1.0, (m.1, n.1.1)))
norepeat-perm (Permᴰ.trans x y) n = norepeat-perm y (norepeat-perm x n)

-- ---- the same row is found
pub found_absent : (p q : ℤ) (d : Database) → holds p q d ≡ false → found p q d ≡ None
found_absent p q [] h = refl
found_absent p q (r ∷ d) h =
    let n = neither (is_key p q r) (holds p q d) h in
    ap₂ (λ b x. cond b (Some r) x) n.0 (found_absent p q d n.1)

-- a key is held exactly when a row of it is found
pub held_found : (p q : ℤ) (d : Database) → holds p q d ≡ is_some (found p q d)
held_found p q [] = refl
held_found p q (r ∷ d) = by_test (is_key p q r) (λ y. rw y refl) (λ n. rw n (held_found p q d))

-- two rows in the other order, where not both have the key
found_swap : (t u : Bool) (a b : Row) (x : Option Row) → (t ≡ true → u ≡ true → ⊥)
    → cond t (Some a) (cond u (Some b) x) ≡ cond u (Some b) (cond t (Some a) x)
found_swap true true a b x n = absurd (n refl refl)
found_swap true false a b x n = refl
found_swap false u a b x n = refl

pub found-perm : (p q : ℤ) {d e : Database} → Permᴰ d e → NoRepeat d → found p q d ≡ found p q e
found-perm p q Permᴰ.nil n = refl
found-perm p q (Permᴰ.cons same rest) n = ap₂ (λ r x. cond (is_key p q r) (Some r) x) same (found-perm p q rest n.1)
found-perm p q (Permᴰ.swap {a = a} {b = b} {l = l} e f) n =
    rw (← e, ← f) (found_swap (is_key p q a) (is_key p q b) a b (found p q l) (λ x y. clash (same_key p q a b x y) (neither _ _ n.0).0))
found-perm p q (Permᴰ.trans x y) n = found-perm p q x n ∙ found-perm p q y (norepeat-perm x n)

-- ---- the same counts and sums
sum-perm : (total : Row → ℤ) {d e : Database} → Permᴰ d e → sum_of total d ≡ sum_of total e
sum-perm total =
    by_perm (λ d e. sum_of total d ≡ sum_of total e) refl (λ r d e. ap (λ z. total r +ℤ z)) (λ a b d. swap (total a) (total b) (sum_of total d)) (λ d e f. ◌∙◌)
  where
    swap : (x y z : ℤ) → x +ℤ (y +ℤ z) ≡ y +ℤ (x +ℤ z)
    swap x y z = sym (+ℤ_assoc x y z) ∙ ap (λ s. s +ℤ z) (+ℤ_comm x y) ∙ +ℤ_assoc y x z

-- number by number, since a permutation that is only said to be there may show equal numbers
pub rolled_perm : (key1 : ℤ) {d e : Database} → Perm d e → rolled_up key1 d ≡ rolled_up key1 e
rolled_perm key1 {d} {e} p i = record {
  rows = rows i;
  reported1 = report (λ r. r.total1) i;
  reported2 = report (λ r. r.total2) i;
  sum1 = sum (λ r. r.total1) i;
  sum2 = sum (λ r. r.total2) i;
}
  where
    rows : length (region key1 d) ≡ length (region key1 e)
    rows = ∥∥₁_elim p (ℕ_set _ _) (λ q. permᴰ-length (filter-perm _ q))

    report : (total : Row → ℤ) → length (reporting total (region key1 d)) ≡ length (reporting total (region key1 e))
    report total = ∥∥₁_elim p (ℕ_set _ _) (λ q. permᴰ-length (filter-perm _ (filter-perm _ q)))

    sum : (total : Row → ℤ) → sum_of total (reporting total (region key1 d)) ≡ sum_of total (reporting total (region key1 e))
    sum total = ∥∥₁_elim p (ℤ_set _ _) (λ q. sum-perm total (filter-perm _ (filter-perm _ q)))

-- ---- the library's tally of a database: what its rows report of a total, and what they come to
abbrev report_of : (Row → ℤ) → Database → Reported
report_of total d = record { rows = length (reporting total d); sum = sum_of total (reporting total d) }

abbrev come_to : Database → Tally
come_to d = record { rows = length d; total1 = report_of (λ r. r.total1) d; total2 = report_of (λ r. r.total2) d }

one_more : (total : Row → ℤ) (r : Row) (d : Database) → with_total (total r) (report_of total d) ≡ report_of total (r ∷ d)
one_more total r d =
    rw (reported_is (total r))
    (by_test (not (eq_z (total r) not_reported))
    (λ y. rw y (λ i. record { rows = suc (length (reporting total d)); sum = +ℤ_comm (sum_of total (reporting total d)) (total r) i })) (λ n. rw n))

tally_counts : (key1 : ℤ) (d : Database) → tally key1 (map Some d) ≡ come_to (region key1 d)
tally_counts key1 [] = refl
tally_counts key1 (r ∷ d) = rw (tally_counts key1 d) (by_test (eq_z r.key1 key1) (λ y. rw y (counts (region key1 d))) (λ n. rw n))
  where
    counts : (e : Database) → counted r.total1 r.total2 (come_to e) ≡ come_to (r ∷ e)
    counts e i = record { rows = suc (length e); total1 = one_more (λ x. x.total1) r e i; total2 = one_more (λ x. x.total2) r e i }

pub tally-region : (key1 : ℤ) (d : Database) → sums (tally key1 (map Some d)) ≡ rolled_up key1 d
tally-region key1 d = ap sums (tally_counts key1 d)
