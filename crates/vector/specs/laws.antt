pub mod VectorLaws
