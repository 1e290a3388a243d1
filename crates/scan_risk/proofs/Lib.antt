pub mod ScanLaws
pub mod SumLemmas
pub mod LaneLemmas
pub mod ScanBounds
pub mod FirstLane
