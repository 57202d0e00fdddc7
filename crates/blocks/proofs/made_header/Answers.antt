-- `blocks::made_header`: the refusal of its tests or, past them, the block of a header whose slots, current and oldest fit their
-- words. Assumes nothing.
use Rattle.std.proofs.Common.{ap, arith, rules, ℤ, nat_abs, T, w32, w64, Fits, SFits, Ok}
use Rattle.std.proofs.lemmas.Result.{err_from_is_err_and}
use Rattle.std.specs.Int.Signed.{non_neg}
use Rattle.refusals.specs.declared.Refusal.TheVariants as refusal
use Rattle.laws.specs.Bits.{plain}
use Rattle.laws.specs.FirstLaws.{none, unless_refused, unless-done}
use Rattle.table.specs.SlotLaws.{lengths}
use Rattle.blocks.specs.BlockTests.{idle_tests}
use Rattle.blocks.specs.FrontLaws.{given, not_given}
use Rattle.blocks.specs.HeaderLaws.{Natural, current_natural, oldest_natural}
use Rattle.blocks.specs.SaveHeader.{save_header_refusal, saved_header}
use Rattle.blocks.proofs.made_header.Goals as goal

-- a version fits a word of 32 bits
in_word : {z : ℤ} → Natural z → (T (non_neg z)) × Fits w32 (nat_abs z)
in_word n = (n.positive, record { fits = omega (arith, n.last) })

pub returns-in_err-test_idle : goal.returns-in_err-test_idle
unfolding save_header_refusal
returns-in_err-test_idle c =
    let p = err_from_is_err_and c.from_residual.result c.from_residual.ensures.1 in
    rw (p.1, p.2) (unless_refused _ (given _ c.test_idle.ensures c.in_err-test_idle.was))

pub overflow_cast-slots : goal.overflow_cast-slots
overflow_cast-slots c =
    let no = none (idle_tests c.args.table.now c.args.versions) (not_given _ c.test_idle.ensures c.in_ok-test_idle.was) in
    record { fits = omega (arith, c.slots_of-slots.ensures, (lengths _ (no refusal.BadTable)).few) }

pub overflow_cast-current : goal.overflow_cast-current
overflow_cast-current c =
    let no = none (idle_tests c.args.table.now c.args.versions) (not_given _ c.test_idle.ensures c.in_ok-test_idle.was) in
    let current : SFits w64 c.args.versions.current = search rules in
    rw (plain _ current) (in_word (current_natural _ (no refusal.BadRecord)))

pub overflow_cast-oldest : goal.overflow_cast-oldest
overflow_cast-oldest c =
    let no = none (idle_tests c.args.table.now c.args.versions) (not_given _ c.test_idle.ensures c.in_ok-test_idle.was) in
    let oldest : SFits w64 c.args.versions.oldest = search rules in
    rw (plain _ oldest) (in_word (oldest_natural _ (no refusal.BadRecord)))

pub returns : goal.returns
unfolding save_header_refusal saved_header
returns c =
    let current : SFits w64 c.args.versions.current = search rules in
    let oldest : SFits w64 c.args.versions.oldest = search rules in
    unless-done (not_given _ c.test_idle.ensures c.in_ok-test_idle.was)
    (ap Ok (rw (c.slots_of-slots.ensures, plain _ current, plain _ oldest) at c.header_block.ensures))
