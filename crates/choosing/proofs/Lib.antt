-- Laws of the quick reading's choices: what there is to choose by when a frame is pushed (DecideStage), and the choice (DecideLaws).
pub mod DecideStage
pub mod DecideLaws
