pub mod OneMorePlace
pub mod MemberTypes
