pub mod DemonstrationKeys
