pub mod Value
pub mod Fault
pub mod CodeFile
pub mod CodeText
pub mod CertificateFile
pub mod Numbers
pub mod LossFile
pub mod Reading
