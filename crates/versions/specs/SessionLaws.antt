-- The laws of open sessions: a session is expired exactly if it is below the oldest open version; during a run the one open session
-- is current; a session from the oldest to current is open; no run's number is above the next of an open session. Each goes by the
-- record in counting numbers. Assumes nothing.
use Rattle.std.specs.Prelude.{◌≡◌, refl, true, false, not, ℕ, zero, suc, ◌+◌, ◌≤◌, ℤ, pos, negsuc, ◌-ℤ◌, ltb}
use Rattle.std.proofs.Common.{sym, ap, ◌∙◌, arith, ltb-false, leb-true, le-ltb}
use Rattle.std.specs.Int.Signed.{lt_z, le_z}
use Rattle.laws.specs.TestLaws.{none-at, clash, by_test}
use Rattle.laws.specs.Tests.{any}
use Rattle.laws.specs.OrderLaws.{lt_z-le_z, le_z_trans, previous}
use Rattle.versions.specs.declared.VersionRecord.{VersionRecord}
use Rattle.versions.specs.Record.{bad_record, last_run}
use Rattle.versions.specs.RecordLaws.{sound, Counted, counts}
use Rattle.versions.specs.Sessions.{unborn, expired, OpenSession}

-- ---- a session from 1 to current is born, and is expired exactly if it is below the oldest
pub born : (v : VersionRecord) (c s : ℕ) → v.current ≡ pos c → 1 ≤ s → s ≤ c → unborn v (pos s) ≡ false
unfolding unborn any
born v c s e l h = simp (e, le-ltb s 1 l, le-ltb c s h)

pub expires : (v : VersionRecord) (o s : ℕ) → v.oldest ≡ pos o → expired v (pos s) ≡ ltb s o
unfolding expired
expires v o s e = rw e

-- an open one is a number from the oldest to current
pub record Between (v : VersionRecord) (s : ℤ) (n : Counted v) : Type 0 where
  pub number : ℕ
  pub is : s ≡ pos number
  pub from : n.oldest_number ≤ number
  pub to : number ≤ n.current-number

pub between : (v : VersionRecord) (s : ℤ) (n : Counted v) → unborn v s ≡ false → expired v s ≡ false → Between v s n
unfolding unborn
between v (pos s) n u x =
    record {
      number = s;
      is = refl;
      from = ltb-false s _ (sym (expires v _ s n.oldest) ∙ x);
      to = ltb-false _ s (rw n.current at (none-at _ 1 u));
    }
between v (negsuc s) n u x = clash refl (none-at _ 0 u)

-- ---- during a run the one open session is current
pub open_in_run : (v : VersionRecord) (s : ℤ) → bad_record v ≡ false → v.active ≡ true → unborn v s ≡ false → expired v s ≡ false → s ≡ v.current
open_in_run v s b a u x =
    let n = counts b in
    let i = between v s n u x in
    i.is ∙ ap pos (omega (arith, i.from, i.to, n.newest a)) ∙ sym n.current

-- ---- a session from the oldest to current is open
pub open_between : (v : VersionRecord) (s : ℤ) → bad_record v ≡ false → le_z v.oldest s ≡ true → le_z s v.current ≡ true → OpenSession v s
unfolding unborn expired any
open_between v s b from to =
    let low = le_z_trans (pos 1) v.oldest s (sound b).first from in
    record { known = b; born = simp (lt_z-le_z, low, to); kept = lt_z-le_z s v.oldest ∙ ap not from }

-- ---- an open session is not below the number before a run's, which is at most the last run's
reaches : (last s : ℕ) (r : ℤ) → last ≤ suc s → le_z r (pos last) ≡ true → lt_z (pos s) (r -ℤ pos 1) ≡ false
reaches last s (pos zero) l h = refl
reaches last s (pos (suc r)) l h = rw (previous r) (le-ltb s r (omega (arith, leb-true (suc r) last h)))
reaches last s (negsuc r) l h = refl

pub open_reaches : (v : VersionRecord) (s r : ℤ) → bad_record v ≡ false → unborn v s ≡ false → expired v s ≡ false → le_z r (last_run v) ≡ true → lt_z s (r -ℤ pos 1) ≡ false
open_reaches v s r b u x h =
    let n = counts b in
    let i = between v s n u x in
    rw i.is
    (by_test v.active
    (λ a. reaches (n.current-number + 1) i.number r (omega (arith, i.from, n.newest a)) (rw (a, n.current) at h))
    (λ a. reaches n.current-number i.number r (omega (arith, i.from, n.near)) (rw (a, n.current) at h)))
