-- The cases of RULES.md, Figures, each as a state, the calls, the numbers expected of each call, and the words and the record
-- expected after; those that the rules do not have say that they are ours. Keys: San Jose golf 1, Berkeley racquetball 2, Novato
-- rollerblades 3; second key is the date, total two is 0. Assumes nothing.
use Rattle.std.specs.Prelude.{true, false, List, [], ◌∷◌, ◌++◌, ℕ, zero, suc, ℤ, pos, negsuc}
use Rattle.versions.specs.declared.VersionRecord.{VersionRecord}
use Rattle.table.specs.Slots.{fresh_table}
use Rattle.calls.specs.Calls.{Call, begin, commit, read_slot, read_key, roll_up, put, delete, roll_back}

pub record Case : Type 0 where
  pub words : List ℤ
  pub versions : VersionRecord
  pub calls : List Call
  pub numbers : List (List ℤ)
  pub words-after : List ℤ
  pub versions_after : VersionRecord

-- ---- how a case is written
-- a slot: run number, operation, key one, key two, current total one, old total one
abbrev pub slot : ℕ → ℕ → ℕ → ℕ → ℕ → ℕ → List ℤ
slot run operation key1 key2 current old =
    pos run ∷ pos operation ∷ pos key1 ∷ pos key2 ∷ pos current ∷ pos 0 ∷ pos old ∷ pos 0 ∷ []

abbrev pub zeros : List ℤ
zeros = fresh_table 1

-- between runs, the version before current is open too, from 1 up
abbrev pub oldest_between : ℕ → ℕ
oldest_between zero = 1
oldest_between (suc zero) = 1
oldest_between (suc (suc n)) = suc n

abbrev pub idle_at : ℕ → VersionRecord
idle_at n = record { current = pos n; active = false; oldest = pos (oldest_between n) }

abbrev pub running_at : ℕ → VersionRecord
running_at n = record { current = pos n; active = true; oldest = pos n }

-- the numbers of an answer: a version, a slot number, a row, no row, the sums of a roll-up, and a refusal of each kind
abbrev pub version : ℕ → List ℤ
version n = pos 0 ∷ pos n ∷ []

abbrev pub at : ℕ → List ℤ
at k = pos 0 ∷ pos k ∷ []

abbrev pub row : ℕ → ℕ → ℕ → List ℤ
row key1 key2 total = pos 0 ∷ pos 1 ∷ pos key1 ∷ pos key2 ∷ pos total ∷ pos 0 ∷ []

abbrev pub none : List ℤ
none = pos 0 ∷ pos 0 ∷ pos 0 ∷ pos 0 ∷ pos 0 ∷ pos 0 ∷ []

-- a roll-up of rows that all reported both totals, total two 0
abbrev pub sums : ℕ → ℕ → List ℤ
sums rows total = pos 0 ∷ pos rows ∷ pos rows ∷ pos rows ∷ pos total ∷ pos 0 ∷ []

abbrev pub read_refused : ℕ → List ℤ
read_refused n = pos n ∷ pos 0 ∷ pos 0 ∷ pos 0 ∷ pos 0 ∷ pos 0 ∷ []

abbrev pub change_refused : ℕ → List ℤ
change_refused n = pos n ∷ pos 0 ∷ []

-- −10^15 − 1: a total that is not reported
abbrev pub unreported : ℤ
unreported = negsuc 1000000000000000

-- ---- the paper's Figure 4 in slots 0 to 3, slot 4 empty
abbrev pub figure4 : List ℤ
figure4 =
    slot 3 1 1 19961014 10000 0
    ++ slot 4 1 1 19961015 1500 0
    ++ slot 4 2 2 19961014 12000 10000
    ++ slot 4 3 3 19961013 8000 8000
    ++ zeros

-- a read of Figure 4 that changes nothing, at current 4 with no run
abbrev pub figure4_read : List Call → List (List ℤ) → Case
figure4_read calls numbers =
    record { words = figure4; versions = idle_at 4; calls = calls; numbers = numbers; words-after = figure4; versions_after = idle_at 4 }

-- session 3: 10,000; none; 10,000; 8,000
abbrev pub session3 : Case
session3 =
    figure4_read
    (read_slot (pos 3) 0 ∷ read_slot (pos 3) 1 ∷ read_slot (pos 3) 2 ∷ read_slot (pos 3) 3
    ∷ read_key (pos 3) (pos 1) (pos 19961014) ∷ read_key (pos 3) (pos 1) (pos 19961015) ∷ read_key (pos 3) (pos 2) (pos 19961014) ∷ read_key (pos 3) (pos 3) (pos 19961013) ∷ [])
    (row 1 19961014 10000 ∷ none ∷ row 2 19961014 10000 ∷ row 3 19961013 8000
    ∷ row 1 19961014 10000 ∷ none ∷ row 2 19961014 10000 ∷ row 3 19961013 8000 ∷ [])

-- session 4: 10,000; 1,500; 12,000; none
abbrev pub session4 : Case
session4 =
    figure4_read
    (read_slot (pos 4) 0 ∷ read_slot (pos 4) 1 ∷ read_slot (pos 4) 2 ∷ read_slot (pos 4) 3
    ∷ read_key (pos 4) (pos 1) (pos 19961014) ∷ read_key (pos 4) (pos 1) (pos 19961015) ∷ read_key (pos 4) (pos 2) (pos 19961014) ∷ read_key (pos 4) (pos 3) (pos 19961013) ∷ [])
    (row 1 19961014 10000 ∷ row 1 19961015 1500 ∷ row 2 19961014 12000 ∷ none
    ∷ row 1 19961014 10000 ∷ row 1 19961015 1500 ∷ row 2 19961014 12000 ∷ none ∷ [])

-- session 2 refused 4; session 5 refused 3
abbrev pub sessions2and5 : Case
sessions2and5 =
    figure4_read
    (read_slot (pos 2) 0 ∷ read_key (pos 2) (pos 1) (pos 19961014) ∷ roll_up (pos 2) (pos 1)
    ∷ read_slot (pos 5) 0 ∷ read_key (pos 5) (pos 1) (pos 19961014) ∷ roll_up (pos 5) (pos 1) ∷ [])
    (read_refused 4 ∷ read_refused 4 ∷ read_refused 4 ∷ read_refused 3 ∷ read_refused 3 ∷ read_refused 3 ∷ [])

-- ours: San Jose's roll-up at both sessions, an absent key, and a slot past the last
abbrev pub roll_ups : Case
roll_ups =
    figure4_read
    (roll_up (pos 3) (pos 1) ∷ roll_up (pos 4) (pos 1) ∷ roll_up (pos 4) (pos 3) ∷ read_key (pos 4) (pos 4) (pos 19961014) ∷ read_slot (pos 4) 4 ∷ read_slot (pos 4) 5 ∷ [])
    (sums 1 10000 ∷ sums 2 11500 ∷ sums 0 0 ∷ none ∷ none ∷ read_refused 5 ∷ [])

-- after begin, session 3 refused 4
abbrev pub after_begin : Case
after_begin = record {
  words = figure4;
  versions = idle_at 4;
  calls = begin ∷ read_slot (pos 3) 0 ∷ read_key (pos 3) (pos 1) (pos 19961014) ∷ roll_up (pos 3) (pos 1) ∷ read_slot (pos 4) 0 ∷ [];
  numbers = version 5 ∷ read_refused 4 ∷ read_refused 4 ∷ read_refused 4 ∷ row 1 19961014 10000 ∷ [];
  words-after = figure4;
  versions_after = running_at 4;
}

-- Figure 5's changes in its order, run 5, give: slot 0 update 10,200 old 10,000; slot 1 untouched; slot 2 delete 12,000 old
-- 12,000; slot 3 insert (1, 19961016) 11,000; slot 4 insert (3, 19961013) 6,000
abbrev pub figure5 : Case
figure5 = record {
  words = figure4;
  versions = idle_at 4;
  calls = begin
      ∷ put (pos 1) (pos 19961016) (pos 11000) (pos 0)
      ∷ put (pos 3) (pos 19961013) (pos 6000) (pos 0)
      ∷ put (pos 1) (pos 19961014) (pos 10200) (pos 0)
      ∷ delete (pos 2) (pos 19961014)
      ∷ [];
  numbers = version 5 ∷ at 3 ∷ at 4 ∷ at 0 ∷ at 2 ∷ [];
  words-after = slot 5 2 1 19961014 10200 10000
      ++ slot 4 1 1 19961015 1500 0
      ++ slot 5 3 2 19961014 12000 12000
      ++ slot 5 1 1 19961016 11000 0
      ++ slot 5 1 3 19961013 6000 0;
  versions_after = running_at 4;
}

-- rolled back, run 5 leaves what session 4 read: slots 0 and 2 are inserts at 4 with their old totals, slots 3 and 4 are empty; session
-- 3 stays expired, and the next run is run 5 again
abbrev pub figure5_back : Case
figure5_back = record {
  words = slot 5 2 1 19961014 10200 10000
      ++ slot 4 1 1 19961015 1500 0
      ++ slot 5 3 2 19961014 12000 12000
      ++ slot 5 1 1 19961016 11000 0
      ++ slot 5 1 3 19961013 6000 0;
  versions = running_at 4;
  calls = roll_back
      ∷ read_slot (pos 4) 0 ∷ read_slot (pos 4) 1 ∷ read_slot (pos 4) 2 ∷ read_slot (pos 4) 3 ∷ read_slot (pos 4) 4 ∷ read_slot (pos 3) 0
      ∷ roll_back ∷ begin ∷ [];
  numbers = version 4
      ∷ row 1 19961014 10000 ∷ row 1 19961015 1500 ∷ row 2 19961014 12000 ∷ none ∷ none ∷ read_refused 4
      ∷ change_refused 8 ∷ version 5 ∷ [];
  words-after = slot 4 1 1 19961014 10000 0
      ++ slot 4 1 1 19961015 1500 0
      ++ slot 4 1 2 19961014 12000 0
      ++ zeros
      ++ zeros;
  versions_after = running_at 4;
}

-- two puts of a new key in one run stay an insert
abbrev pub new_key_put_twice : Case
new_key_put_twice = record {
  words = zeros;
  versions = idle_at 1;
  calls = begin ∷ put (pos 1) (pos 19961014) (pos 10000) (pos 0) ∷ put (pos 1) (pos 19961014) (pos 10200) (pos 0)
      ∷ read_key (pos 1) (pos 1) (pos 19961014) ∷ [];
  numbers = version 2 ∷ at 0 ∷ at 0 ∷ none ∷ [];
  words-after = slot 2 1 1 19961014 10200 0;
  versions_after = running_at 1;
}

-- delete then put in one run is update
abbrev pub delete_then_put : Case
delete_then_put = record {
  words = slot 2 1 1 19961014 10000 0;
  versions = idle_at 2;
  calls = begin ∷ delete (pos 1) (pos 19961014) ∷ put (pos 1) (pos 19961014) (pos 7000) (pos 0)
      ∷ read_key (pos 2) (pos 1) (pos 19961014) ∷ [];
  numbers = version 3 ∷ at 0 ∷ at 0 ∷ row 1 19961014 10000 ∷ [];
  words-after = slot 3 2 1 19961014 7000 10000;
  versions_after = running_at 2;
}

-- put then delete of a new key leaves zeros
abbrev pub new_key_deleted : Case
new_key_deleted = record {
  words = zeros;
  versions = idle_at 1;
  calls = begin ∷ put (pos 1) (pos 19961014) (pos 10000) (pos 0) ∷ delete (pos 1) (pos 19961014) ∷ [];
  numbers = version 2 ∷ at 0 ∷ at 0 ∷ [];
  words-after = zeros;
  versions_after = running_at 1;
}

-- one slot, its key live at the last commit and deleted by this run: a put of another key is refused 12; in the next run it
-- is accepted
abbrev pub one_slot : Case
one_slot = record {
  words = slot 2 1 1 19961014 10000 0;
  versions = idle_at 2;
  calls = begin ∷ delete (pos 1) (pos 19961014) ∷ put (pos 2) (pos 19961014) (pos 500) (pos 0)
      ∷ commit ∷ begin ∷ put (pos 2) (pos 19961014) (pos 500) (pos 0) ∷ [];
  numbers = version 3 ∷ at 0 ∷ change_refused 12 ∷ version 3 ∷ version 4 ∷ at 0 ∷ [];
  words-after = slot 4 1 2 19961014 500 0;
  versions_after = running_at 3;
}

-- a total of 10^15 is accepted, 10^15 + 1 refused 13; and, ours, so at the other end, where −10^15 − 1 says that a total is not
-- reported and 13 begins below it, and of total two
abbrev pub totals : Case
totals = record {
  words = zeros;
  versions = running_at 1;
  calls = put (pos 1) (pos 19961014) (pos 1000000000000000) (pos 0)
      ∷ put (pos 1) (pos 19961014) (pos 1000000000000001) (pos 0)
      ∷ put (pos 1) (pos 19961014) (negsuc 999999999999999) (pos 1000000000000000)
      ∷ put (pos 1) (pos 19961014) unreported (negsuc 999999999999999)
      ∷ put (pos 1) (pos 19961014) (negsuc 1000000000000001) (pos 0)
      ∷ put (pos 1) (pos 19961014) (pos 0) (pos 1000000000000001)
      ∷ put (pos 1) (pos 19961014) (pos 0) (negsuc 1000000000000001)
      ∷ [];
  numbers = at 0 ∷ change_refused 13 ∷ at 0 ∷ at 0 ∷ change_refused 13 ∷ change_refused 13 ∷ change_refused 13 ∷ [];
  words-after = pos 2 ∷ pos 1 ∷ pos 1 ∷ pos 19961014 ∷ unreported ∷ negsuc 999999999999999 ∷ pos 0 ∷ pos 0 ∷ [];
  versions_after = running_at 1;
}

-- ours, the incident: a run corrects one row twice; an open session reads the totals from before the run
abbrev pub corrected_twice : Case
corrected_twice = record {
  words = slot 2 1 1 19961014 10000 0;
  versions = idle_at 2;
  calls = begin ∷ put (pos 1) (pos 19961014) (pos 10200) (pos 0) ∷ put (pos 1) (pos 19961014) (pos 10300) (pos 0)
      ∷ read_key (pos 2) (pos 1) (pos 19961014) ∷ roll_up (pos 2) (pos 1) ∷ commit ∷ read_key (pos 3) (pos 1) (pos 19961014) ∷ [];
  numbers = version 3 ∷ at 0 ∷ at 0 ∷ row 1 19961014 10000 ∷ sums 1 10000 ∷ version 3 ∷ row 1 19961014 10300 ∷ [];
  words-after = slot 3 2 1 19961014 10300 10000;
  versions_after = idle_at 3;
}

-- ours: a roll-up leaves out what is not reported, and counts each row all the same. Day 14 reports both totals, day 15 total one
-- alone, which is 0, and day 16 none; a row is read as it stands. Then run 3 takes total one of day 14 back as not reported, which
-- a session at 2 does not see
abbrev pub as_reported : List ℤ
as_reported = pos 0 ∷ pos 3 ∷ pos 2 ∷ pos 1 ∷ pos 5 ∷ pos 7 ∷ []

abbrev pub partly_reported : Case
partly_reported = record {
  words = zeros ++ zeros ++ zeros;
  versions = running_at 1;
  calls = put (pos 1) (pos 14) (pos 5) (pos 7) ∷ put (pos 1) (pos 15) (pos 0) unreported ∷ put (pos 1) (pos 16) unreported unreported ∷ commit
      ∷ roll_up (pos 2) (pos 1) ∷ read_key (pos 2) (pos 1) (pos 15)
      ∷ begin ∷ put (pos 1) (pos 14) unreported (pos 8) ∷ roll_up (pos 2) (pos 1) ∷ commit ∷ roll_up (pos 2) (pos 1) ∷ roll_up (pos 3) (pos 1) ∷ [];
  numbers = at 0 ∷ at 1 ∷ at 2 ∷ version 2
      ∷ as_reported ∷ (pos 0 ∷ pos 1 ∷ pos 1 ∷ pos 15 ∷ pos 0 ∷ unreported ∷ [])
      ∷ version 3 ∷ at 0 ∷ as_reported ∷ version 3 ∷ as_reported ∷ (pos 0 ∷ pos 3 ∷ pos 1 ∷ pos 1 ∷ pos 0 ∷ pos 8 ∷ []) ∷ [];
  words-after = pos 3 ∷ pos 2 ∷ pos 1 ∷ pos 14 ∷ unreported ∷ pos 8 ∷ pos 5 ∷ pos 7
      ∷ pos 2 ∷ pos 1 ∷ pos 1 ∷ pos 15 ∷ pos 0 ∷ unreported ∷ pos 0 ∷ pos 0
      ∷ pos 2 ∷ pos 1 ∷ pos 1 ∷ pos 16 ∷ unreported ∷ unreported ∷ pos 0 ∷ pos 0 ∷ [];
  versions_after = idle_at 3;
}

abbrev pub cases : List Case
cases =
    session3
    ∷ session4
    ∷ sessions2and5
    ∷ roll_ups
    ∷ after_begin
    ∷ figure5
    ∷ figure5_back
    ∷ new_key_put_twice
    ∷ delete_then_put
    ∷ new_key_deleted
    ∷ one_slot
    ∷ totals
    ∷ corrected_twice
    ∷ partly_reported
    ∷ []
