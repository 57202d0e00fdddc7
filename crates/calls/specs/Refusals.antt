-- The refusals by name, passed on to statements about calls. Assumes nothing.
pub use Rattle.refusals.specs.declared.Refusal.{Refusal}
pub use Rattle.refusals.specs.declared.Refusal.TheVariants.{BadTable, BadRecord, NoSuchVersion, Expired, NoSuchPlace, BrokenSlot, RunActive, NoRun, NoVersionLeft, KeyNotLive, TableFull, BadTotal, NotBlock, WrongCheck, BadField}
