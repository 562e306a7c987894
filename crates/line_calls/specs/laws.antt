pub mod LineCallLaws
