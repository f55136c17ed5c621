pub mod EffectNeeds
pub mod OutcomeLaws
