-- `table_keys::key_far`. The invariant: the groups that were passed have no slot with the key, and the word that is compared is one of
-- its two. Assumes nothing.
use Rattle.std.proofs.Common.{◌+◌, ◌*◌}
use Rattle.table_keys.specs.declared.TheConstants.{GROUP}
use Rattle.table_keys.specs.KeySearch.{Keyless, IsKeyWord}
use Rattle.table_keys.proofs.key_far.Given as goal

abbrev pub invariant-loop-group : goal.invariant-loop-group
invariant-loop-group l = Keyless l.table l.key1 l.key2 (1 + GROUP * l.group) × IsKeyWord l.compared l.key1 l.key2
