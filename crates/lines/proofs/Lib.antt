mod Decimal
mod Digits
mod Joined
