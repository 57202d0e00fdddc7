-- `reads::read_key`: past the session's four tests (`session_passes`) the answer is `show_formed`'s of the slot that the search found;
-- an absent key's slot is the empty one, which is well formed and shows no row. Assumes nothing.
use Rattle.std.proofs.Common.{◌≡◌, sym, ap, ◌∙◌, not}
use Rattle.std.proofs.lemmas.Result.{err_from_is_err_and}
use Rattle.laws.specs.Bits.{plain}
use Rattle.laws.specs.FirstLaws.{unless_refused, unless-done, skip, done}
use Rattle.laws.specs.LowestLaws.{below-some, below-none}
use Rattle.table.specs.Slots.{empty}
use Rattle.table_forms.specs.FormedLaws.{empty_formed}
use Rattle.table_keys.specs.Keys.{keyed}
use Rattle.table_keys.specs.KeyLaws.{absent_empty}
use Rattle.reads.specs.OpenLaws.{opened, session_stops, session_passes, answered_err, answered_ok}
use Rattle.reads.specs.Table1Laws.{shown-empty}
use Rattle.reads.specs.ReadKey.{read_key_refusal, read_key_answer}
use Rattle.reads.proofs.read_key.Goals as goal

pub returns-in_err-test_session : goal.returns-in_err-test_session
unfolding read_key_refusal read_key_answer
returns-in_err-test_session c =
    let told = rw (plain _ c.ranges.session) at c.test_session.ensures in
    let p = err_from_is_err_and c.from_residual.result c.from_residual.ensures.1 in
    rw (p.1, p.2) (record { answer = unless_refused _ (session_stops _ _ _ _ (answered_err told c.in_err-test_session.was)) })

pub returns-in-Some : goal.returns-in-Some
unfolding read_key_refusal read_key_answer
returns-in-Some c =
    let told = rw (plain _ c.ranges.session) at c.test_session.ensures in
    let found = rw (plain _ c.ranges.key1, plain _ c.ranges.key2) at c.key_slot.ensures in
    let k = (below-some _ _ (sym c.in-Some.is ∙ found)).1 in
    record { answer = rw (session_passes _ _ _ _ (answered_ok told c.in_ok-test_session.was), k) (rw (plain _ c.ranges.session, c.slot_at.ensures) at c.show_formed.ensures) }

pub returns-in-None : goal.returns-in-None
unfolding read_key_refusal read_key_answer
returns-in-None c =
    let a = c.args in
    let told = rw (plain _ c.ranges.session) at c.test_session.ensures in
    let found = rw (plain _ c.ranges.key1, plain _ c.ranges.key2) at c.key_slot.ensures in
    let past = below-none _ _ (sym c.in-None.is ∙ found) in
    let e : keyed a.table.now a.key1 a.key2 ≡ empty = absent_empty _ _ _ (opened _ _ _ (answered_ok told c.in_ok-test_session.was)).table past in
    record { answer = unless-done (session_passes _ _ _ _ (answered_ok told c.in_ok-test_session.was) ∙ skip _ _ (rw e (ap not (empty_formed _))) ∙ done) (rw (e, shown-empty)) }
