pub mod Supply
