pub mod SettingUp
