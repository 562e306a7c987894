pub mod CodeBytesLaws
