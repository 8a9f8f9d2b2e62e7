-- what public contracts cite: lists of names, and the contents of tables and scopes
pub mod Known
pub mod Named
-- the representation of names in tables and scopes
pub mod inner
