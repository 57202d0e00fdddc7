-- A call is accepted exactly where the first of its answer's numbers, as RULES.md (Answers as numbers) gives them, is 0: no refusal has
-- the number 0. Assumes nothing.
use Rattle.std.specs.Prelude.{◌≡◌, refl, false, pos, get_or, Some, None, Ok, Err}
use Rattle.std.proofs.Common.{sym}
use Rattle.calls.specs.Terms.{eq_z}
use Rattle.refusals.specs.Refusals.{number}
use Rattle.calls.specs.Refusals.{Refusal, BadTable, BadRecord, NoSuchVersion, Expired, NoSuchPlace, BrokenSlot, RunActive, NoRun, NoVersionLeft, KeyNotLive, TableFull, BadTotal, NotBlock, WrongCheck, BadField}
use Rattle.calls.specs.Calls.{Answer, numbered, seen, rolled, placed, saved, header, loaded}
use Rattle.calls.specs.Numbers.{numbers}
use Rattle.history.specs.Kinds.{accepted}

not_zero : (e : Refusal) → eq_z (pos (number e)) (pos 0) ≡ false
not_zero BadTable = refl
not_zero BadRecord = refl
not_zero NoSuchVersion = refl
not_zero Expired = refl
not_zero NoSuchPlace = refl
not_zero BrokenSlot = refl
not_zero RunActive = refl
not_zero NoRun = refl
not_zero NoVersionLeft = refl
not_zero KeyNotLive = refl
not_zero TableFull = refl
not_zero BadTotal = refl
not_zero NotBlock = refl
not_zero WrongCheck = refl
not_zero BadField = refl

pub accepted_number : (a : Answer) → accepted a ≡ eq_z (get_or (numbers a) 0 (pos 0)) (pos 0)
accepted_number (numbered (Ok n)) = refl
accepted_number (numbered (Err e)) = sym (not_zero e)
accepted_number (seen (Ok (Some x))) = refl
accepted_number (seen (Ok None)) = refl
accepted_number (seen (Err e)) = sym (not_zero e)
accepted_number (rolled (Ok x)) = refl
accepted_number (rolled (Err e)) = sym (not_zero e)
accepted_number (placed (Ok k)) = refl
accepted_number (placed (Err e)) = sym (not_zero e)
accepted_number (saved (Ok x)) = refl
accepted_number (saved (Err e)) = sym (not_zero e)
accepted_number (header (Ok x)) = refl
accepted_number (header (Err e)) = sym (not_zero e)
accepted_number (loaded (Ok x)) = refl
accepted_number (loaded (Err e)) = sym (not_zero e)
