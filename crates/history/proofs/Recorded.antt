-- The version record of two versions in a history: it is sound, says what was followed, and expires a committed version exactly
-- when that is gone. So at a start, at whatever version; a change leaves it so, and so do begin, which makes current the oldest open
-- version, and commit and roll back, which keep it. Assumes nothing.
use Rattle.std.specs.Prelude.{◌≡◌, refl, true, false, ℕ, suc, ◌+◌, ◌≤◌, leb, ltb, pos, nat_abs, ◌+ℤ◌, None}
use Rattle.std.proofs.Common.{sym, ap, ◌∙◌, add-one, arith, ltb-true, ltb-false, le-ltb, le-leb}
use Rattle.std.proofs.lemmas.Bool.{lt-leb}
use Rattle.laws.specs.TestLaws.{by_test}
use Rattle.versions.specs.declared.VersionRecord.{VersionRecord}
use Rattle.versions.specs.Record.{bad_record, run_number}
use Rattle.versions.specs.RecordLaws.{sound, counts}
use Rattle.versions.specs.Sessions.{unborn, expired}
use Rattle.versions.specs.SessionLaws.{born, expires}
use Rattle.versions_runs.specs.Runs.{begin_refusal, begun_from, commit_refusal, committed_from}
use Rattle.versions_runs.specs.RunLaws.{can_commit, begun-sound, committed_sound}
use Rattle.changes_roll_back.specs.RollBack.{rolled_back_from}
use Rattle.changes_roll_back.specs.RollBackLaws.{rolled_back-sound}
use Rattle.history.specs.Databases.{Database, Change}
use Rattle.history.specs.Followed.{Followed, starting, current, Committed, Gone, with_change, run_begun, run_committed, run_rolled_back}
use Rattle.history.proofs.Growth.{counted}

pub record Recorded (v : VersionRecord) (g : Followed) : Type 0 where
  pub known : bad_record v ≡ false
  pub origin : 1 ≤ g.origin
  pub version : v.current ≡ pos (current g)
  pub active : v.active ≡ g.active
  pub expiry : (s : ℕ) → Committed g s → expired v (pos s) ≡ leb (s + 2) g.begun

-- a start: no run is active, and none after it has begun
pub start_recorded : {v : VersionRecord} (c : ℕ) (d : Database) → bad_record v ≡ false → v.active ≡ false → v.current ≡ pos c → 1 ≤ c → Recorded v (starting c d)
start_recorded {v} c d known idle version low =
    let at : v.current ≡ pos (current (starting c d)) = version ∙ ap pos (omega arith) in
    let n = counts known in
    let same : n.current-number ≡ c = ap nat_abs (sym n.current ∙ version) in
    record {
      known = known;
      origin = low;
      version = at;
      active = idle;
      expiry = λ s h. expires v _ s n.oldest ∙ le-ltb s _ (omega (arith, n.below, h.from)) ∙ sym (lt-leb (s + 2) c (omega (arith, h.to)));
    }

-- once the run after a version c has begun, what is gone is what is below c
below_gone : (c s : ℕ) → ltb s c ≡ leb (s + 2) (suc c)
below_gone c s =
    by_test (ltb s c) (λ y. y ∙ sym (le-leb (s + 2) (suc c) (omega (arith, ltb-true s c y))))
    (λ n. n ∙ sym (lt-leb (s + 2) (suc c) (omega (arith, ltb-false s c n))))

module _ {v : VersionRecord} {g : Followed} (x : Recorded v g) where
  pub run_is : pos (suc (current g)) ≡ run_number v
  run_is = ap pos (sym (add-one (current g))) ∙ ap (λ z. z +ℤ pos 1) (sym x.version)

  -- a committed version is no future one, and is refused as expired exactly when it is gone
  module _ {s : ℕ} (c : Committed g s) where
    pub is_born : unborn v (pos s) ≡ false
    is_born = born v (current g) s x.version (omega (arith, x.origin, c.from)) c.to

    pub is_gone : Gone 2 g s → expired v (pos s) ≡ true
    is_gone h = x.expiry s c ∙ le-leb (s + 2) g.begun h

    pub is_kept : (Gone 2 g s → ⊥) → expired v (pos s) ≡ false
    is_kept still = x.expiry s c ∙ lt-leb (s + 2) g.begun (omega arith)

  pub change_recorded : (c : Change) → Recorded v (with_change c g)
  change_recorded c = record {
    known = x.known;
    origin = x.origin;
    version = x.version;
    active = x.active;
    expiry = λ s h. x.expiry s (record { from = h.from; to = h.to });
  }

  pub begin_recorded : begin_refusal v ≡ None → Recorded (begun_from v) (run_begun g)
  begin_recorded h = record {
    known = begun-sound v h;
    origin = x.origin;
    version = x.version;
    active = refl;
    expiry = λ s c. expires (begun_from v) (current g) s x.version ∙ below_gone (current g) s;
  }

  -- a roll back ends the run and keeps the rest
  pub roll_back_recorded : v.active ≡ true → g.begun ≡ suc (current g) → Recorded (rolled_back_from v) (run_rolled_back g)
  roll_back_recorded a begun = record {
    known = rolled_back-sound v x.known;
    origin = x.origin;
    version = x.version;
    active = refl;
    expiry = λ s c. expires (rolled_back_from v) (current g) s ((sound x.known).newest a ∙ x.version) ∙ rw begun (below_gone (current g) s);
  }

  module _ (h : commit_refusal v ≡ None) where
    pub commit_runs : g.active ≡ true
    commit_runs = sym x.active ∙ (can_commit v h).active

    pub commit_recorded : g.begun ≡ suc (current g) → Recorded (committed_from v) (run_committed g)
    commit_recorded begun =
        let version : run_number v ≡ pos (current (run_committed g)) = rw (counted g, run_is) in
        record {
          known = committed_sound v h;
          origin = x.origin;
          version = version;
          active = refl;
          expiry = λ s c. expires (committed_from v) (current g) s ((sound x.known).newest (can_commit v h).active ∙ x.version) ∙ rw begun (below_gone (current g) s);
        }
