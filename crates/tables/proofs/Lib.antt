-- Laws of the checks, of fresh tables, and of refusals.
pub mod RefusalLaws
pub mod CheckLaws
pub mod FreshLaws
