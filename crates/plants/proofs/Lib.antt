pub mod PlantLaws
