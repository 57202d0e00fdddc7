-- How the contracts of begin and commit are shown: a refusal leaves the record as it was; what is not refused is done. What
-- was tested where a call is accepted, and what is left to test of a sound record. Assumes nothing.
use Rattle.std.specs.Prelude.{◌≡◌, refl, Some, None, Result, Ok, Err, true, false, ◌||◌, [], ◌∷◌, suc, ◌+◌, ℤ, pos, negsuc, ◌+ℤ◌, ◌-ℤ◌}
use Rattle.std.proofs.Common.{ap, ◌∙◌, sym, add-one, arith, leb-true, le-leb}
use Rattle.std.proofs.Math.Bool.{or-true}
use Rattle.std.specs.Int.Signed.{le_z}
use Rattle.std.proofs.lemmas.Bool.{eqb-false}
use Rattle.refusals.specs.declared.Refusal.{Refusal}
use Rattle.refusals.specs.declared.Refusal.TheVariants as refusal
use Rattle.laws.specs.TestLaws.{clash, not_no}
use Rattle.laws.specs.FirstLaws.{unless_refused, unless-done, kept_refused, kept-done, none, skip, done}
use Rattle.laws.specs.First.{first}
use Rattle.laws.specs.OrderLaws.{eq_z_refl, next_low, previous}
use Rattle.laws.specs.Order.{eq_z}
use Rattle.versions.specs.declared.VersionRecord.{VersionRecord}
use Rattle.versions.specs.Record.{largest_version, bad_record, idle, run_number}
use Rattle.versions.specs.RecordLaws.{sound, known}
use Rattle.versions_runs.specs.Runs.{open_refusal, open_answer, begin_refusal, begin_answer, begin_record, begun_from, BeginContract, commit_refusal, commit_answer, commit_record, committed_from, CommitContract, OpenContract}

pub begin_kept : {v v' : VersionRecord} {e : Refusal} → begin_refusal v ≡ Some e → v' ≡ v → BeginContract v (Err e) v'
unfolding begin_answer begin_record
begin_kept {v} h k = record { answer = unless_refused (run_number v) h; versions = kept_refused (begun_from v) h k }

pub begin_done : {v v' : VersionRecord} {r : Result ℤ Refusal} → begin_refusal v ≡ None → r ≡ Ok (run_number v) → v' ≡ begun_from v → BeginContract v r v'
unfolding begin_answer begin_record
begin_done {v} h a b = record { answer = unless-done h a; versions = kept-done v h b }

pub commit_kept : {v v' : VersionRecord} {e : Refusal} → commit_refusal v ≡ Some e → v' ≡ v → CommitContract v (Err e) v'
unfolding commit_answer commit_record
commit_kept {v} h k = record { answer = unless_refused (run_number v) h; versions = kept_refused (committed_from v) h k }

pub commit_done : {v v' : VersionRecord} {r : Result ℤ Refusal} → commit_refusal v ≡ None → r ≡ Ok (run_number v) → v' ≡ committed_from v → CommitContract v r v'
unfolding commit_answer commit_record
commit_done {v} h a b = record { answer = unless-done h a; versions = kept-done v h b }

-- ---- what comes of them by their refusal
pub record TurnRefuses (e : Refusal) (v : VersionRecord) (r : Result ℤ Refusal) (v' : VersionRecord) : Type 0 where
  pub answer : r ≡ Err e
  pub record_kept : v' ≡ v

pub begin_refuses : (v : VersionRecord) (e : Refusal) → begin_refusal v ≡ Some e → TurnRefuses e v (begin_answer v) (begin_record v)
unfolding begin_answer begin_record
begin_refuses v e h = record { answer = rw h; record_kept = rw h }

pub commit_refuses : (v : VersionRecord) (e : Refusal) → commit_refusal v ≡ Some e → TurnRefuses e v (commit_answer v) (commit_record v)
unfolding commit_answer commit_record
commit_refuses v e h = record { answer = rw h; record_kept = rw h }

pub record TurnAccepts (v : VersionRecord) (r : Result ℤ Refusal) (v' after : VersionRecord) : Type 0 where
  pub answer : r ≡ Ok (run_number v)
  pub record_after : v' ≡ after

pub begin_accepts : (v : VersionRecord) → begin_refusal v ≡ None → TurnAccepts v (begin_answer v) (begin_record v) (begun_from v)
unfolding begin_answer begin_record
begin_accepts v h = record { answer = rw h; record_after = rw h }

pub commit_accepts : (v : VersionRecord) → commit_refusal v ≡ None → TurnAccepts v (commit_answer v) (commit_record v) (committed_from v)
unfolding commit_answer commit_record
commit_accepts v h = record { answer = rw h; record_after = rw h }

-- ---- an accepted begin: the record is sound, no run is active, and a version is left
pub record CanBegin (v : VersionRecord) : Type 0 where
  pub known : bad_record v ≡ false
  pub idle : v.active ≡ false
  pub room : eq_z v.current largest_version ≡ false

pub can_begin : (v : VersionRecord) → begin_refusal v ≡ None → CanBegin v
unfolding begin_refusal
can_begin v h =
    let no = none _ h in
    record { known = no refusal.BadRecord; idle = no refusal.RunActive; room = no refusal.NoVersionLeft }

-- ---- an accepted commit: the record is sound, and a run is active
pub record CanCommit (v : VersionRecord) : Type 0 where
  pub known : bad_record v ≡ false
  pub active : v.active ≡ true

pub can_commit : (v : VersionRecord) → commit_refusal v ≡ None → CanCommit v
unfolding commit_refusal
can_commit v h =
    let no = none _ h in
    record { known = no refusal.BadRecord; active = not_no (no refusal.NoRun) }

-- ---- of a sound record open answers current, begin is refused by the run or by the versions left, commit by the run
pub open_answers : (v : VersionRecord) → bad_record v ≡ false → open_answer v ≡ Ok v.current
unfolding open_answer open_refusal
open_answers v b = rw (skip refusal.BadRecord [] b ∙ done)

pub begin_left : (v : VersionRecord) → bad_record v ≡ false → begin_refusal v ≡ first ((v.active, refusal.RunActive) ∷ (eq_z v.current largest_version, refusal.NoVersionLeft) ∷ [])
unfolding begin_refusal
begin_left v b = skip refusal.BadRecord _ b

pub commit_left : (v : VersionRecord) → bad_record v ≡ false → commit_refusal v ≡ first ((idle v, refusal.NoRun) ∷ [])
unfolding commit_refusal
commit_left v b = skip refusal.BadRecord _ b

-- ---- what they leave is sound: a version is left to begin at, and the run's number is one of them
below_largest : (c : ℤ) → le_z (pos 1) c ≡ true → le_z c largest_version ≡ true → eq_z c largest_version ≡ false → le_z (c +ℤ pos 1) largest_version ≡ true
below_largest (pos n) l h ne = le-leb (n + 1) 1000000000 (omega (arith, leb-true n 1000000000 h, eqb-false n 1000000000 ne))
below_largest (negsuc n) l h ne = clash l refl

-- the oldest that a run leaves is the number before its own
kept_near : (c o : ℤ) → le_z (pos 1) c ≡ true → o ≡ c → (eq_z o (c +ℤ pos 1) || eq_z o ((c +ℤ pos 1) -ℤ pos 1)) ≡ true
kept_near (pos c) o l e = rw (e, add-one c, previous c, eq_z_refl (pos c)) (or-true (eq_z (pos c) (pos (suc c))))
kept_near (negsuc c) o l e = clash l refl

pub begun-sound : (v : VersionRecord) → begin_refusal v ≡ None → bad_record (begun_from v) ≡ false
begun-sound v h =
    let can = can_begin v h in
    let s = sound {v = v} can.known in
    known (record {
      low = s.low;
      high = s.high;
      in_run = λ a. can.room;
      first = s.low;
      near = ap (λ b. b || eq_z v.current (v.current -ℤ pos 1)) (eq_z_refl v.current);
      newest = λ a. refl;
    })

pub committed_sound : (v : VersionRecord) → commit_refusal v ≡ None → bad_record (committed_from v) ≡ false
committed_sound v h =
    let can = can_commit v h in
    let s = sound {v = v} can.known in
    known (record {
      low = next_low v.current s.low;
      high = below_largest v.current s.low s.high (s.in_run can.active);
      in_run = λ a. clash a refl;
      first = s.first;
      near = kept_near v.current v.oldest s.low (s.newest can.active);
      newest = λ a. clash a refl;
    })

-- ---- each contract allows one outcome
pub one_opened : {v : VersionRecord} {r r' : Result ℤ Refusal} → OpenContract v r → OpenContract v r' → r ≡ r'
one_opened a b = a.answer ∙ sym b.answer

pub one_begun : {v u u' : VersionRecord} {r r' : Result ℤ Refusal} → BeginContract v r u → BeginContract v r' u' → (r ≡ r') × (u ≡ u')
one_begun a b = (a.answer ∙ sym b.answer, a.versions ∙ sym b.versions)

pub one_committed : {v u u' : VersionRecord} {r r' : Result ℤ Refusal} → CommitContract v r u → CommitContract v r' u' → (r ≡ r') × (u ≡ u')
one_committed a b = (a.answer ∙ sym b.answer, a.versions ∙ sym b.versions)
