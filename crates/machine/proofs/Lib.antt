-- Laws on the machine's steps.
pub mod GoodLaws
pub mod PushLaws
pub mod ServingLaws
pub mod KeepLaws
pub mod LowestLaws
pub mod AlternativeLaws
pub mod MoveLaws
pub mod AdvanceLaws
pub mod WaitLaws
pub mod CallLaws
pub mod SpaceLaws
pub mod EndingLaws
pub mod GoingLaws
