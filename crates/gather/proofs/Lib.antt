-- The laws of the gathering reader, for its own proofs and for those of the demands.
pub mod RefusalLaws
pub mod JudgeLaws
pub mod EnterLaws
pub mod WaitingLaws
pub mod JoinLaws
pub mod FollowLaws
pub mod StartLaws
pub mod GatherLaws
pub mod StateLaws
pub mod HandedLaws
pub mod ReadingLaws
pub mod CallLaws
