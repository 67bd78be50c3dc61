-- Laws on lines.
pub mod LineLaws
pub mod KeptLaws
pub mod CountLaws
pub mod LineCases
pub mod OpenLaws
pub mod HeadedLaws
