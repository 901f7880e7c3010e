pub mod CoreReportLaws
