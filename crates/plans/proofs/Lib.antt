pub mod RoundLaws
pub mod ExchangeLaws
