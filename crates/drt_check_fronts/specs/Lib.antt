pub mod FrontOrder
