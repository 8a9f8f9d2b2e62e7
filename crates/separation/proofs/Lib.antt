mod Bare
mod Goes
mod Least
mod NeverAstray
mod Own
mod Permitted
mod Rows
