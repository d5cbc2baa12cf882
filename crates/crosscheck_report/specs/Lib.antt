pub mod CrosscheckLines
