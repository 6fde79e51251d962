-- The proof that the definitions answer every starred example as document 01 says.
pub mod Examples
