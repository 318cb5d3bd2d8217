pub mod RulingLaws
