mod AccountLemmas
mod AllFaultLaws
mod AloneLemmas
mod CheckLemmas
mod CountLemmas
pub mod CountedLaws
pub mod CutLemmas
mod CutPlaces
mod FieldLemmas
mod FormLemmas
mod FormedLemmas
mod KindLemmas
mod LegLemmas
mod LowestLaws
mod NumberedLemmas
pub mod OrderAccountLaws
mod OrderLemmas
mod OrderSteps
pub mod PieceLaws
pub mod PlainLines
mod PositionLemmas
pub mod ProfileLaws
mod RangeLemmas
mod ReadLemmas
mod RecordLemmas
pub mod ReadableLaws
mod RowLemmas
mod SizeLemmas
mod StepLemmas
mod TallyLemmas
mod TestLemmas
pub mod TogetherLaws
mod ToldLemmas
mod ValueLemmas
