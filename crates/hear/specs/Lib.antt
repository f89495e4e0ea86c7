pub mod Vouchers
