pub mod CutListLemmas
pub mod PartFileLemmas
pub mod PartFileListLemmas
pub mod PartLemmas
pub mod PartListLemmas
pub mod RearrangedLemmas
pub mod SortedLemmas
