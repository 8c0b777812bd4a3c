-- The law of a delivery's row, by the name that proofs above cite.
pub use Rattle.table_delivery.specs.Delivery.{exact}
