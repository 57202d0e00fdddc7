pub mod ChangeLeaves
pub mod PutRow
pub mod PutParts
pub mod PutPartLaws
pub mod DeleteRow
pub mod LeavesLaws
pub mod PlacedNumbers
