-- Demand 3, whole: the table of two versions supplies what `Argument` asks, so that every promise holds after every history of a
-- fresh one of any lawful size, `demand3`; and after every history of any whole table in which no key has two slots, at any version
-- with no run active, whose database there are the rows that it shows, `from_whole`. Assumes nothing.
use Rattle.std.specs.Prelude.{◌≡◌, false, List, ℕ, ◌≤◌, ℤ, pos}
use Rattle.std.proofs.Common.{arith}
use mathlib.Core.List.Permᴰ
use Rattle.versions.specs.declared.VersionRecord.{VersionRecord}
use Rattle.versions.specs.Record.{bad_record}
use Rattle.table.specs.Slots.{slots}
use Rattle.table.specs.SlotLaws.{lengths}
use Rattle.table_keys.specs.Keys.{key_slot}
use Rattle.changes.specs.Whole.{Whole, KeysApart}
use Rattle.calls.specs.Calls.{Call}
use Rattle.history.specs.Followed.{starting}
use Rattle.history.specs.Kinds.{fresh_world, after, NoLoad}
use Rattle.history.specs.Demand.{Kept}
use Rattle.history.specs.TwoVersions.{two_versions, Demand3}
use Rattle.history.proofs.Views.{rows_at, rows_norepeat}
use Rattle.history.proofs.Invariant.{start_inv}
use Rattle.history.proofs.Fullness.{current-alone}
use Rattle.history.proofs.Recorded.{start_recorded}
use Rattle.history.proofs.Argument.{Argument, after_step}
use Rattle.history.proofs.Promises.{from, demanded}
use Rattle.history.proofs.Table.{view_of, fresh_table_lem, fresh_inv, key_place}
use Rattle.history.proofs.Steps.{TableWorld, SoundWorld, world_view, next_step}
use Rattle.history.proofs.RunAnswers.{runs}
use Rattle.history.proofs.ReadAnswers.{reads}
use Rattle.history.proofs.ChangeAnswers.{free_at, idle, rooms, in_run}

abbrev pub two_versions_lem : Argument two_versions
two_versions_lem = record {
  Sound = SoundWorld;
  view = world_view;
  some = λ m w x. omega (arith, x.size, (lengths w.state.words x.whole.shape).some);
  fresh = λ m size. record { sound = fresh_table_lem m size; inv = fresh_inv m };
  makes = next_step;
  place = λ w. key_slot w.state.words;
  free = free_at;
  placed = λ m w i. key_place i.sound;
  runs = runs;
  reads = reads;
  idle = idle;
  rooms = rooms;
  in_run = in_run;
}

pub demand3 : Demand3
demand3 = record {
  demanded = demanded two_versions_lem;
  current-alone = λ m size h no_load a.
      current-alone (after h (fresh_world two_versions m)).told ((after_step two_versions_lem m (fresh_world two_versions m) (two_versions_lem.fresh m size) h no_load).step.inv.in_run a);
}

-- ---- a start with rows
module _ (m c : ℕ) (t : List ℤ) (v : VersionRecord) (b : List ℕ) where
  abbrev pub whole_world : TableWorld
  whole_world = record { state = record { words = t; versions = v; block = b }; told = starting c (rows_at (view_of t) c m) }

  pub from_whole : slots t ≡ m → Whole t v → KeysApart t → bad_record v ≡ false → v.active ≡ false → v.current ≡ pos c → 1 ≤ c
      → (h : List Call) → NoLoad {K = two_versions} h whole_world → Kept {K = two_versions} m (after {K = two_versions} h whole_world)
  from_whole size whole apart known no_run version low h no_load =
      from two_versions_lem m whole_world
      (record {
        sound = record { size = size; whole = whole; recorded = start_recorded c _ known no_run version low };
        inv = start_inv c _ (omega arith) (record { slot = apart }) (Permᴰ.refl _);
      })
      (rows_norepeat {T = view_of t} (record { slot = apart }) ((view_of t).shown c) ((view_of t).owned c) m) h no_load
