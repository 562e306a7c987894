pub mod NumberLaws
pub mod SiteLaws
