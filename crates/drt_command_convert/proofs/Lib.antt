pub mod ConvertPromises
