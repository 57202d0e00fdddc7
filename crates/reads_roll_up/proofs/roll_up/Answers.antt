-- `reads_roll_up::roll_up`: past the session's four tests each slot is tested; those before k are well formed, which bounds the tally
-- (`tally_more`), and past the last slot the tally is that of all. Assumes nothing.
use Rattle.std.proofs.Common.{rules, arith, ◌≡◌, sym, ap, ◌∙◌, w64, SFits, Ok}
use Rattle.std.proofs.lemmas.Result.{err_from_is_err_and}
use Rattle.laws.specs.TestLaws.{not_no}
use Rattle.laws.specs.Bits.{plain}
use Rattle.laws.specs.FirstLaws.{unless_refused, unless-done, skip, hit, done}
use Rattle.table.specs.Slots.{slots}
use Rattle.table_forms.specs.FormedLaws.{one_broken, each_formed}
use Rattle.reads.specs.OpenLaws.{opened, session_stops, session_passes, answered_err, answered_ok}
use Rattle.reads_roll_up.specs.RollUp.{sums, roll_up_refusal, roll_up_answer}
use Rattle.reads_roll_up.specs.RollUpLaws.{tally_more, shown-lawful}
use Rattle.reads_roll_up.proofs.roll_up.Goals as goal

pub returns-in_err-test_session : goal.returns-in_err-test_session
unfolding roll_up_refusal roll_up_answer
returns-in_err-test_session c =
    let told = rw (plain _ c.ranges.session) at c.test_session.ensures in
    let p = err_from_is_err_and c.from_residual.result c.from_residual.ensures.1 in
    rw (p.1, p.2) (record { answer = unless_refused _ (session_stops _ _ _ _ (answered_err told c.in_err-test_session.was)) })

pub returns-then-is_broken_at : goal.returns-then-is_broken_at
unfolding roll_up_refusal roll_up_answer
returns-then-is_broken_at c =
    let told = rw (plain _ c.ranges.session) at c.test_session.ensures in
    let broken = one_broken _ _ c.loop-k.k (omega arith) (sym c.is_broken_at.ensures ∙ c.if-is_broken_at.true) in
    record { answer = unless_refused _ (session_passes _ _ _ _ (answered_ok told c.in_ok-test_session.was) ∙ hit _ broken) }

-- the slot at k is well formed
pub tally_slot-tally-requires-clause-lawful_row : goal.tally_slot-tally-requires-clause-lawful_row
tally_slot-tally-requires-clause-lawful_row c =
    shown-lawful _ _ c.args.versions (not_no (sym c.is_broken_at.ensures ∙ c.if-is_broken_at.false))

-- and the tally so far is of fewer than 1,024 rows
pub tally_slot-tally-requires-clause-bounded : goal.tally_slot-tally-requires-clause-bounded
tally_slot-tally-requires-clause-bounded c =
    let told = rw (plain _ c.ranges.session) at c.test_session.ensures in
    let shape = (opened _ _ _ (answered_ok told c.in_ok-test_session.was)).table in
    rw c.loop-k.invariant.0 (tally_more _ c.args.versions _ _ c.loop-k.k shape (omega arith) c.loop-k.invariant.1)

-- past the last slot the tally is that of all, and each slot is well formed
pub returns : goal.returns
unfolding roll_up_refusal roll_up_answer
returns c =
    let a = c.args in
    let told = rw (plain _ c.ranges.session) at c.test_session.ensures in
    let end : c.loop-k.k ≡ slots a.table.now = omega arith in
    let formed = each_formed a.table.now a.versions (λ j l. c.loop-k.invariant.1 j (omega (arith, l))) in
    let first : SFits w64 c.loop-k.tally.total1.sum = search rules in
    let second : SFits w64 c.loop-k.tally.total2.sum = search rules in
    let whole = rw (plain _ c.ranges.key1, plain _ c.ranges.session, end) at c.loop-k.invariant.0 in
    record { answer = unless-done (session_passes _ _ _ _ (answered_ok told c.in_ok-test_session.was) ∙ skip _ _ formed ∙ done) (rw (plain _ first, plain _ second) (ap (λ n. Ok (sums n)) whole)) }
