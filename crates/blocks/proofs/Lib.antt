pub mod EndLaws
pub mod RoundTrip
pub mod AlteredBlock
