-- `probe::records::version_of`: by the test of `is_marked`, which is the definition's; the words of current, the mark and the oldest are
-- read as the numbers that they are. Assumes nothing.
use Rattle.std.proofs.Common.{rules, sym, ◌∙◌, w64, SFits, slice_index_or, pos}
use Rattle.laws.specs.Bits.{plain, eq_bits}
use Rattle.probe.specs.Probed.{version_of}
use Rattle.probe.proofs.records.version_of.Goals as goal

pub returns-then-is_marked : goal.returns-then-is_marked
unfolding version_of
returns-then-is_marked c =
    let words = c.args.record_words.now in
    let current : SFits w64 (slice_index_or words 0 (pos 0)) = search rules in
    let mark : SFits w64 (slice_index_or words 1 (pos 0)) = search rules in
    let oldest : SFits w64 (slice_index_or words 2 (pos 0)) = search rules in
    simp (sym c.is_marked.ensures ∙ c.if-is_marked.true, plain _ current, plain _ oldest, eq_bits _ (pos 1) mark (search rules))

pub returns : goal.returns
unfolding version_of
returns c = rw (sym c.is_marked.ensures ∙ c.if-is_marked.false)
