-- What open, begin, commit and roll back answer where all is well: the record is sound and says what was followed, so that only the run and
-- the versions left are tested. Assumes nothing.
use Rattle.std.specs.Prelude.{◌≡◌, true, false, not, ℕ, ◌≤◌, Ok}
use Rattle.std.proofs.Common.{sym, ap, ◌∙◌, arith, leb-true, eq-eqb, ne_eqb}
use Rattle.laws.specs.FirstLaws.{skip, hit, done}
use Rattle.laws.specs.Order.{eq_z}
use Rattle.versions.specs.Record.{largest_version}
use Rattle.versions.specs.RecordLaws.{sound}
use Rattle.versions_runs.specs.RunLaws.{open_answers, begin_left, begin_accepts, begin_refuses, commit_left, commit_accepts, commit_refuses}
use Rattle.changes_roll_back.specs.RollBackLaws.{roll_back_passes, roll_back_idle, roll_back_accepts, roll_back_refuses}
use Rattle.calls.specs.Refusals as refusal
use Rattle.calls.specs.Calls as answer
use Rattle.history.specs.Followed.{current}
use Rattle.history.specs.Demand.{Runs}
use Rattle.history.proofs.Recorded.{run_is}
use Rattle.history.proofs.Steps.{TableWorld, Well}

pub runs : (m : ℕ) (w : TableWorld) → Well m w → Runs w
runs m w i =
    let v = w.state.versions in
    let t = w.state.words in
    let x = i.sound.recorded in
    let whole = i.sound.whole in
    let next = ap Ok (sym (run_is x)) in
    let most : current w.told ≤ 1000000000 = leb-true _ _ (rw x.version at (sound x.known).high) in
    record {
      opened = ap answer.numbered (open_answers v x.known ∙ ap Ok x.version);
      begun = λ idle left.
          let more : eq_z v.current largest_version ≡ false = rw x.version (ne_eqb (current w.told) 1000000000 (omega arith)) in
          ap answer.numbered ((begin_accepts v (begin_left v x.known ∙ skip refusal.RunActive _ (x.active ∙ idle) ∙ skip refusal.NoVersionLeft _ more ∙ done)).answer ∙ next);
      begun_already = λ a. ap answer.numbered (begin_refuses v refusal.RunActive (begin_left v x.known ∙ hit _ (x.active ∙ a))).answer;
      no_version_left = λ idle last.
          let none : eq_z v.current largest_version ≡ true = rw x.version (eq-eqb (current w.told) 1000000000 (omega arith)) in
          ap answer.numbered (begin_refuses v refusal.NoVersionLeft (begin_left v x.known ∙ skip refusal.RunActive _ (x.active ∙ idle) ∙ hit _ none)).answer;
      committed = λ a. ap answer.numbered ((commit_accepts v (commit_left v x.known ∙ skip refusal.NoRun _ (ap not (x.active ∙ a)) ∙ done)).answer ∙ next);
      no_run = λ idle. ap answer.numbered (commit_refuses v refusal.NoRun (commit_left v x.known ∙ hit _ (ap not (x.active ∙ idle)))).answer;
      rolled_back = λ a. ap answer.numbered
          ((roll_back_accepts t v (roll_back_passes t v (record { shape = whole.shape; known = x.known; active = x.active ∙ a; formed = whole.formed }))).answer
          ∙ ap Ok x.version);
      nothing_to_roll_back = λ idle. ap answer.numbered (roll_back_refuses t v refusal.NoRun (roll_back_idle t v whole.shape x.known (x.active ∙ idle))).answer;
    }
