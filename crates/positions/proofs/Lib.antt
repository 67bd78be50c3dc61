-- Laws on sets of positions, one subject a file.
pub mod SetLaws
pub mod WordLaws
pub mod NextLaws
pub mod JoinLaws
pub mod MemberLaws
