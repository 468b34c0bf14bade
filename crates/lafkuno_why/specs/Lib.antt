-- What a caller sees of the calls that tell what stopped an order.
pub mod Why
