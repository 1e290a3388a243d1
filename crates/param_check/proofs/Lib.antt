pub mod AnswerLaws
pub mod KeyLemmas
pub mod OrderedFaults
pub mod OverlapLemmas
pub mod RenumberLaws
pub mod RuleLaws
