-- A slot's eight words fit: what a proof about code that takes a slot apart has to know of them. Assumes nothing.
use Rattle.std.specs.Prelude.{◌<◌, ℤ}
use Rattle.std.specs.Int.Signed.{mag}
use Rattle.std.specs.Int.{w64}
use Rattle.std.proofs.Common.{SFits}
use Rattle.table.specs.declared.Slot.{Slot}

pub record SlotFits (x : Slot) : Type 0 where
  pub run : SFits w64 x.run
  pub operation : SFits w64 x.operation
  pub key1 : SFits w64 x.key1
  pub key2 : SFits w64 x.key2
  pub current1 : SFits w64 x.current1
  pub current2 : SFits w64 x.current2
  pub old1 : SFits w64 x.old1
  pub old2 : SFits w64 x.old2

-- what the taking apart of a slot tells of each word: that it is below 2^63 on either side of 0
abbrev pub Below : ℤ → Type 0
Below z = mag z < 9223372036854775808

pub told : {A B C D E F G H R : Type 0} (x : Slot)
    → (A × Below x.run) × ((B × Below x.operation) × ((C × Below x.key1) × ((D × Below x.key2)
    × ((E × Below x.current1) × ((F × Below x.current2) × ((G × Below x.old1) × ((H × Below x.old2) × R)))))))
    → SlotFits x
told x (a, (b, (c, (d, (e, (f, (g, (h, r)))))))) = record {
  run = record { sfits = a.1 };
  operation = record { sfits = b.1 };
  key1 = record { sfits = c.1 };
  key2 = record { sfits = d.1 };
  current1 = record { sfits = e.1 };
  current2 = record { sfits = f.1 };
  old1 = record { sfits = g.1 };
  old2 = record { sfits = h.1 };
}
